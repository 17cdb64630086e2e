use Rattle.cargo_toml_features.proofs.Cited.{action_in, ap, arith, text_keys, unwrap_or, ◌∙◌}
use Rattle.cargo_toml_features.proofs.ActionTexts.{joined_at}
use Rattle.cargo_toml_features.proofs.action.join_action.Goals as goal

pub returns : goal.returns
returns c =
    let first = c.neutral_action-first.result in
    joined_at c.args.deps.now _ c.args.action.target.now (action_in c.args.action) first c.or_insert.result.now c.join.new.self
    (λ k apart. grind (arith, text_keys)) (grind (arith, text_keys)) (c.neutral_action-first.ensures (action_in c.args.action))
    (c.or_insert.ensures.value ∙ ap (λ o. unwrap_or o first) c.in_ok-deps.ensures.value)
    c.in_ok-join.ensures
