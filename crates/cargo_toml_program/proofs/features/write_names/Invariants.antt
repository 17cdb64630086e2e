use Rattle.cargo_toml_program.proofs.Cited.{between_commas, codes, flat_map, string_bytes, ◌++◌, ◌≡◌}
use Rattle.cargo_toml_program.proofs.features.write_names.Given as goal

abbrev pub invariant-loop-name : goal.invariant-loop-name
invariant-loop-name l =
    string_bytes l.text ++ flat_map (λ t. codes ", " ++ t.now) l.name-iterator
    ≡ string_bytes l.fn.text ++ (l.fn.title ++ between_commas (λ t. t.now) l.fn.names.keys)
