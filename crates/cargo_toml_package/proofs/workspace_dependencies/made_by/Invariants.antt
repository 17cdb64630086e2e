use Rattle.cargo_toml_package.proofs.Cited.{AreEntriesOf, Some, dependency_meaning, made_meaning, map, map_meaning, string_bytes, ◌≡◌}
use Rattle.cargo_toml_package.proofs.Inherited.{behind, needed}
use Rattle.cargo_toml_package.proofs.workspace_dependencies.made_by.Given as goal

abbrev pub invariant-loop-key : goal.invariant-loop-key
invariant-loop-key l =
    let templates = map_meaning dependency_meaning l.templates in
    (needed (Some templates) l.base (map_meaning dependency_meaning l.dependencies)
    ≡ behind (made_meaning l.made) (needed (Some templates) l.base (map (λ e. (string_bytes e.0, dependency_meaning e.1)) l.key-iterator)))
    × AreEntriesOf templates l.near
