use Rattle.cargo_toml_package.proofs.Cited.{dependency_meaning, map, map_meaning, option_copied, option_map, string_bytes, target_meaning}
use Rattle.cargo_toml_package.proofs.Targets.{IsMade}
use Rattle.cargo_toml_package.proofs.workspace_dependencies.targets.target_replacements.Given as goal

abbrev pub invariant-loop-target : goal.invariant-loop-target
invariant-loop-target l = IsMade (option_map (map_meaning dependency_meaning) (option_copied l.templates)) l.base
    (map_meaning target_meaning l.targets) l.made.items (map (λ e. (string_bytes e.0, target_meaning e.1)) l.target-iterator)
