use Rattle.cargo_toml_lint.proofs.Cited.{◌++◌, ◌≡◌, flat_map, map, map_meaning, table_of, target_meaning, target_tables, TargetMeaning, Text}
use Rattle.cargo_toml_lint.proofs.Adding.{target_of}
use Rattle.cargo_toml_lint.proofs.tables.tables_of.Given as goal

abbrev pub invariant-loop-target : goal.invariant-loop-target
invariant-loop-target g l =
    let of = λ (t : Text × TargetMeaning). target_tables t.1 in
    map table_of l.tables.items ++ flat_map of (map target_of l.target-iterator)
    ≡ flat_map of (map_meaning target_meaning l.manifest.target)
