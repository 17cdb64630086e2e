use Rattle.cargo_toml_write.proofs.Cited.{codes, comparator_text, comparator_view, flat_map, string_bytes, take, ◌++◌, ◌≡◌}
use Rattle.cargo_toml_write.proofs.write.requirement.requirement_text.Given as goal

abbrev pub invariant-loop-other : goal.invariant-loop-other
invariant-loop-other l =
    string_bytes l.text
    ≡ string_bytes l.initial.text ++ flat_map (λ c. codes ", " ++ comparator_text (comparator_view c)) (take l.other-index l.others)
