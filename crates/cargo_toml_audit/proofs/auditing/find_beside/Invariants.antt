use Rattle.cargo_toml_audit.proofs.Cited.{OnDisks, astray, base_of, drop, flat_map, known_of, map, oddities_of, string_bytes, ◌++◌, ◌≡◌}
use Rattle.cargo_toml_audit.proofs.auditing.find_beside.Given as goal

abbrev pub invariant-loop-entry : goal.invariant-loop-entry
invariant-loop-entry g l =
    OnDisks (λ d. oddities_of l.findings ++ flat_map (astray (base_of l.root) d (known_of l.known)) (map string_bytes (drop l.entry-index l.entry-items))
    ≡ oddities_of l.initial.findings ++ flat_map (astray (base_of l.root) d (known_of l.known)) (map string_bytes l.entry-items))
    l.initial.looking.looks l.looking.looks
