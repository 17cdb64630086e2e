use Rattle.cargo_toml_audit.proofs.Cited.{asking_of, contains_text, drop, false, further_from, map, oddity_of, ◌++◌, ◌≡◌}
use Rattle.cargo_toml_audit.proofs.audit.dependencies.further.Given as goal

abbrev pub invariant-loop-one : goal.invariant-loop-one
invariant-loop-one l =
    map oddity_of l.all.items ++ further_from (contains_text l.names) (contains_text l.keys) (map asking_of (drop l.one-index l.uses))
    ≡ further_from (λ t. false) (λ t. false) (map asking_of l.uses)
