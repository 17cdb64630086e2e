use Rattle.cargo_toml_audit.proofs.Cited.{OnDisks, drop, false, flat_map, led, length, map, string_bytes, ◌++◌, ◌≡◌}
use Rattle.cargo_toml_audit.proofs.members.walk.Looking.+led.Given as goal

abbrev pub decreases-led : goal.decreases-led
decreases-led g l = length l.names.now

abbrev pub invariant-loop-path : goal.invariant-loop-path
invariant-loop-path g l =
    OnDisks (λ d. map string_bytes l.all.items ++ flat_map (led d false (map (λ t. t.now) l.others)) (map string_bytes (drop l.path-index l.path-items))
    ≡ led d l.from.1 (map (λ t. t.now) l.names) l.from.0.now)
    l.fn.self.looks l.self.looks
