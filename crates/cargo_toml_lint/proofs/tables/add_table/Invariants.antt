use Rattle.cargo_toml_lint.proofs.Cited.{◌++◌, ◌≡◌, about, dependency_meaning, map, map_meaning, table_findings}
use Rattle.cargo_toml_lint.proofs.Adding.{entry_of}
use Rattle.cargo_toml_lint.proofs.tables.add_table.Given as goal

abbrev pub invariant-loop-key : goal.invariant-loop-key
invariant-loop-key l =
    map about l.found.items ++ table_findings l.is_dev l.left (map entry_of l.key-iterator)
    ≡ map about l.initial.found.items
    ++ table_findings l.is_dev l.limit (map_meaning dependency_meaning l.table)
