use Rattle.cargo_toml_audit.proofs.Cited.{OnDisks, drop, flat_map, map, places_once, string_bytes, ◌++◌, ◌≡◌}
use Rattle.cargo_toml_audit.proofs.members.walk.Looking.listed.Given as goal

abbrev pub invariant-loop-entry : goal.invariant-loop-entry
invariant-loop-entry g l =
    OnDisks (λ d. map string_bytes l.all.items ++ flat_map (places_once d l.root) (map string_bytes (drop l.entry-index l.entries))
    ≡ flat_map (places_once d l.root) (map string_bytes l.entries))
    l.fn.self.looks l.self.looks
