use Rattle.cargo_toml_resolve.proofs.Cited.{action_of, ap, arith, joined_at, on_ok_weaker, text_keys, unwrap_or, ◌∙◌}
use Rattle.cargo_toml_resolve.proofs.joining.add_action.Goals as goal

pub returns : goal.returns
returns c =
    let first = c.neutral_action-first.result in
    let action = action_of c.args.action.now in
    on_ok_weaker c.merge.result
    (joined_at c.args.own.now _ c.args.key.now action first c.or_insert.result.now c.merge.new.own
    (λ k apart. grind (arith, text_keys)) (grind (arith, text_keys)) (c.neutral_action-first.ensures action)
    (c.or_insert.ensures.value ∙ ap (λ o. unwrap_or o first) c.in_ok-own.ensures.value))
    c.merge.ensures
