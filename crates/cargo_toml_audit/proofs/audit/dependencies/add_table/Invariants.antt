use Rattle.cargo_toml_audit.proofs.Cited.{entries_meaning, entry_of, listed_of, map, with_kind, ◌++◌, ◌≡◌}
use Rattle.cargo_toml_audit.proofs.audit.dependencies.add_table.Given as goal

abbrev pub invariant-loop-key : goal.invariant-loop-key
invariant-loop-key l =
    map listed_of l.all.items ++ with_kind (l.kind, map entry_of l.key-iterator) ≡ map listed_of l.fn.all.items ++ with_kind (l.kind, entries_meaning l.table)
