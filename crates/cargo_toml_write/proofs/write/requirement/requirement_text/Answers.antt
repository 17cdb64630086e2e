use Rattle.cargo_toml_write.proofs.Cited.{Comparator, Held, ap, codes, comparator_text, comparator_view, flat_map, flat_map-map, map, requirement_text, string_bytes, sym, take_all, ◌++◌, ◌∙◌}
use Rattle.cargo_toml_write.proofs.write.requirement.requirement_text.Goals as goal

pub returns : goal.returns
returns c =
    let first = c.in-Some.first.now in
    let others = c.in-Some.others.now in
    c.loop-other.invariant
    ∙ ap (λ t. string_bytes c.push_comparator.new.text ++ flat_map (λ (x : Comparator). codes ", " ++ comparator_text (comparator_view x)) t)
    (take_all c.loop-other.other-index others c.loop-other-test.false)
    ∙ ap (λ t. t ++ flat_map (λ (x : Comparator). codes ", " ++ comparator_text (comparator_view x)) others)
    (c.in_ok-push_comparator.ensures ∙ ap (λ t. t ++ comparator_text (comparator_view first)) c.new-text.ensures.bytes)
    ∙ ap (λ t. comparator_text (comparator_view first) ++ t) (sym (flat_map-map (λ (h : Held). codes ", " ++ comparator_text h) comparator_view others))
    ∙ ap (λ cs. requirement_text (map comparator_view cs)) (sym c.in-Some.ensures.cases.0 ∙ c.deref.ensures.value)
