use Rattle.cargo_toml_lint.proofs.Cited.{◌↔◌, ◌∙◌, Among, ap, arith, held_names, item_of, list_any, map, nth_text, or_cases, or_left, or_right, Passes, string_bytes, subst, take_all, turns_to}
use Rattle.cargo_toml_lint.proofs.Gathered.{any_more}
use Rattle.cargo_toml_lint.proofs.linking.row_of.Goals as goal

pub loop-text-preserved : goal.loop-text-preserved
loop-text-preserved c = λ b.
    let test = turns_to (held_names c.args.known.now).optional (nth_text (map (λ t. t.now) c.args.names.now) b) in
    let more = any_more test item_of string_bytes c.texts_of-texts.result.now c.loop-text.text-index c.text-item.result c.loop-text-test.true c.text-item.is in
    grind (arith, or_cases, or_left, or_right, c.loop-text.invariant b, c.in_ok-add_edge.ensures b, c.as_str.ensures.value)

pub returns : goal.returns
returns c = λ b.
    let texts = c.texts_of-texts.result.now in
    subst (λ ts. Among c.loop-text.row.items b ↔ Passes c.args.names.now (λ x. list_any (turns_to (held_names c.args.known.now).optional x) (map item_of ts)) b)
    (ap (map string_bytes) (take_all c.loop-text.text-index texts c.loop-text-test.false) ∙ c.texts_of-texts.ensures) (c.loop-text.invariant b)
