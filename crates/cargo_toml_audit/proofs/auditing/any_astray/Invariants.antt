use Rattle.cargo_toml_audit.proofs.Cited.{drop, is_astray, known_of, list_any, map, string_bytes, ◌≡◌}
use Rattle.cargo_toml_audit.proofs.auditing.any_astray.Given as goal

abbrev pub invariant-loop-place : goal.invariant-loop-place
invariant-loop-place l =
    list_any (is_astray (known_of l.known)) (map string_bytes (drop l.place-index l.places)) ≡ list_any (is_astray (known_of l.known)) (map string_bytes l.places)
