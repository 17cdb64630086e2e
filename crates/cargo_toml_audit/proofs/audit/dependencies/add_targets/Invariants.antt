use Rattle.cargo_toml_audit.proofs.Cited.{flat_map, in_target, listed_of, map, map_meaning, target_meaning, target_of, ◌++◌, ◌≡◌}
use Rattle.cargo_toml_audit.proofs.audit.dependencies.add_targets.Given as goal

abbrev pub invariant-loop-target : goal.invariant-loop-target
invariant-loop-target l =
    map listed_of l.all.items ++ flat_map in_target (map target_of l.target-iterator)
    ≡ map listed_of l.fn.all.items ++ flat_map in_target (map_meaning target_meaning l.targets)
