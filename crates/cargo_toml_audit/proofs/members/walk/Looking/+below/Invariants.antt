use Rattle.cargo_toml_audit.proofs.Cited.{OnDisks, below, drop, flat_map, map, string_bytes, with_itself, ◌++◌, ◌-◌, ◌≡◌}
use Rattle.cargo_toml_audit.proofs.members.walk.Looking.+below.Given as goal

abbrev pub decreases-below : goal.decreases-below
decreases-below g l = l.levels

abbrev pub invariant-loop-next : goal.invariant-loop-next
invariant-loop-next g l =
    OnDisks (λ d. map string_bytes l.all.items ++ flat_map (with_itself (below d (l.levels - 1))) (map string_bytes (drop l.next-index l.next-items))
    ≡ below d l.levels l.folder)
    l.fn.self.looks l.self.looks
