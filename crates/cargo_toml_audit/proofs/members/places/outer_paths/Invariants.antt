use Rattle.cargo_toml_audit.proofs.Cited.{drop, map, outer_paths, string_bytes, ◌++◌, ◌≡◌}
use Rattle.cargo_toml_audit.proofs.members.places.outer_paths.Given as goal

abbrev pub invariant-loop-entry : goal.invariant-loop-entry
invariant-loop-entry l = map string_bytes l.all.items ++ outer_paths l.root (map string_bytes (drop l.entry-index l.entries)) ≡ outer_paths l.root (map string_bytes l.entries)
