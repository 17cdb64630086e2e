use Rattle.cargo_toml_audit.proofs.Cited.{drop, included, map, string_bytes, ◌++◌, ◌≡◌}
use Rattle.cargo_toml_audit.proofs.members.included.Given as goal

abbrev pub invariant-loop-place : goal.invariant-loop-place
invariant-loop-place l =
    map string_bytes l.all.items
    ++ included l.root (map string_bytes l.workspace.exclude.items) (map string_bytes l.workspace.members.items) (map string_bytes (drop l.place-index l.places))
    ≡ included l.root (map string_bytes l.workspace.exclude.items) (map string_bytes l.workspace.members.items) (map string_bytes l.places)
