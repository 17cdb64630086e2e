use Rattle.cargo_toml_program.proofs.Cited.{codes, flat_map, string_bytes, ◌++◌, ◌≡◌}
use Rattle.cargo_toml_program.proofs.features.write_action.Given as goal

abbrev pub invariant-loop-feature : goal.invariant-loop-feature
invariant-loop-feature l =
    string_bytes l.text ++ flat_map (λ t. codes "/" ++ t.now) l.feature-iterator
    ≡ string_bytes l.initial.text ++ flat_map (λ t. codes "/" ++ t.now) l.initial.feature-iterator
