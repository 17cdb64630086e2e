use Rattle.cargo_toml_tools.proofs.Cited.{◌≡◌, first_of, left_target, map, map_meaning, target_meaning, target_of}
use Rattle.cargo_toml_tools.proofs.left.left_in_targets.Given as goal

abbrev pub invariant-loop-name : goal.invariant-loop-name
invariant-loop-name l =
    first_of left_target (map target_of l.name-iterator)
    ≡ first_of left_target (map_meaning target_meaning l.targets)
