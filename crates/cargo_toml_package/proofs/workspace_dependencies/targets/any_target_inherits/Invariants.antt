use Rattle.cargo_toml_package.proofs.Cited.{any_target_left, map, map_meaning, string_bytes, target_meaning, ◌≡◌}
use Rattle.cargo_toml_package.proofs.workspace_dependencies.targets.any_target_inherits.Given as goal

abbrev pub invariant-loop-target : goal.invariant-loop-target
invariant-loop-target l = any_target_left (map_meaning target_meaning l.targets) ≡ any_target_left (map (λ e. (string_bytes e.0, target_meaning e.1)) l.target-iterator)
