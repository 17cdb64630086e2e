use Rattle.cargo_toml_tools.proofs.Cited.{◌++◌, ◌≡◌, flat_map, map, map_meaning, table_of, table_view, target_meaning, target_of, target_tables}
use Rattle.cargo_toml_tools.proofs.index.sections.sections.Given as goal

abbrev pub invariant-loop-name : goal.invariant-loop-name
invariant-loop-name g l =
    map table_of l.all.items ++ flat_map (target_tables (table_view l.document)) (map target_of l.name-iterator)
    ≡ map table_of l.initial.all.items
    ++ flat_map (target_tables (table_view l.document)) (map_meaning target_meaning l.manifest.target)
