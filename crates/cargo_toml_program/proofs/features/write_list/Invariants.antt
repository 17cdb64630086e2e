use Rattle.cargo_toml_program.proofs.Cited.{codes, flat_map, string_bytes, take, ◌++◌, ◌≡◌}
use Rattle.cargo_toml_program.proofs.features.write_list.Given as goal

abbrev pub invariant-loop-item : goal.invariant-loop-item
invariant-loop-item l =
    string_bytes l.text
    ≡ string_bytes l.initial.text ++ flat_map (λ t. codes ", " ++ t.now) (take l.item-index l.rest)
