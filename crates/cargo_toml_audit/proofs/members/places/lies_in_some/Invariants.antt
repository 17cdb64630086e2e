use Rattle.cargo_toml_audit.proofs.Cited.{drop, lies_in_some, map, string_bytes, ◌≡◌}
use Rattle.cargo_toml_audit.proofs.members.places.lies_in_some.Given as goal

abbrev pub invariant-loop-outer : goal.invariant-loop-outer
invariant-loop-outer l = lies_in_some l.path (map string_bytes (drop l.outer-index l.outers)) ≡ lies_in_some l.path (map string_bytes l.outers)
