use Rattle.cargo_toml_features.proofs.Cited.{Some, TargetMeaning, Text, built_entries, entry_of, flat_map, map, map_meaning, string_bytes, target_meaning, ◌++◌, ◌≡◌}
use Rattle.cargo_toml_features.proofs.entries.add_targets_built.Given as goal

abbrev pub invariant-loop-name : goal.invariant-loop-name
invariant-loop-name l =
    map entry_of l.entries.items
    ++ flat_map (λ (t : Text × TargetMeaning). built_entries l.limit (Some t.0) t.1) (map (λ e. (string_bytes e.0, target_meaning e.1)) l.name-iterator)
    ≡ map entry_of l.initial.entries.items ++ flat_map (λ (t : Text × TargetMeaning). built_entries l.limit (Some t.0) t.1) (map_meaning target_meaning l.targets)
