use Rattle.cargo_toml_audit.proofs.Cited.{contains_text, entries_meaning, entry_of, flat_map, map, oddities_of, shared_oddities, ◌++◌, ◌≡◌}
use Rattle.cargo_toml_audit.proofs.audit.findings.add_shared.Given as goal

abbrev pub invariant-loop-key : goal.invariant-loop-key
invariant-loop-key l =
    oddities_of l.findings ++ flat_map (shared_oddities (contains_text l.inherited)) (map entry_of l.key-iterator)
    ≡ oddities_of l.fn.findings ++ flat_map (shared_oddities (contains_text l.inherited)) (entries_meaning l.dependencies)
