use Rattle.cargo_toml_audit.proofs.Cited.{OnDisks, drop, flat_map, map, place_if, places_if_right, string_bytes, ◌++◌, ◌≡◌}
use Rattle.cargo_toml_audit.proofs.members.walk.Looking.places_of_entry.Given as goal

abbrev pub invariant-loop-path : goal.invariant-loop-path
invariant-loop-path g l =
    OnDisks (λ d. map string_bytes l.places.items ++ flat_map (place_if d) (map string_bytes (drop l.path-index l.path-items)) ≡ places_if_right d l.root l.entry)
    l.fn.self.looks l.self.looks
