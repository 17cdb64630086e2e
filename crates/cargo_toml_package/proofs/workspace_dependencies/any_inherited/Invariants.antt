use Rattle.cargo_toml_package.proofs.Cited.{any_left, dependency_meaning, map, map_meaning, string_bytes, ◌≡◌}
use Rattle.cargo_toml_package.proofs.workspace_dependencies.any_inherited.Given as goal

abbrev pub invariant-loop-dependency : goal.invariant-loop-dependency
invariant-loop-dependency l = any_left (map_meaning dependency_meaning l.dependencies) ≡ any_left (map (λ e. (string_bytes e.0, dependency_meaning e.1)) l.dependency-iterator)
