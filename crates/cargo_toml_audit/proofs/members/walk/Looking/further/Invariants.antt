use Rattle.cargo_toml_audit.proofs.Cited.{OnDisks, drop, flat_map, further, further_in, map, string_bytes, true, ◌++◌, ◌≡◌}
use Rattle.cargo_toml_audit.proofs.members.walk.Looking.further.Given as goal

abbrev pub invariant-loop-folder : goal.invariant-loop-folder
invariant-loop-folder g l =
    OnDisks (λ d. map string_bytes l.all.items ++ flat_map (further_in d true l.name) (map string_bytes (drop l.folder-index l.folder-items)) ≡ further d l.from.1 l.name l.from.0.now)
    l.fn.self.looks l.self.looks
