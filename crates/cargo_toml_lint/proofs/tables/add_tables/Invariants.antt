use Rattle.cargo_toml_lint.proofs.Cited.{◌++◌, ◌≡◌, about, flat_map, map, table_findings, table_of, take}
use Rattle.cargo_toml_lint.proofs.tables.add_tables.Given as goal

abbrev pub invariant-loop-table : goal.invariant-loop-table
invariant-loop-table g l =
    map about l.found.items ≡ map about l.initial.found.items
    ++ flat_map (λ t. table_findings t.1 l.limit t.0) (map table_of (take l.table-index l.table-items))
