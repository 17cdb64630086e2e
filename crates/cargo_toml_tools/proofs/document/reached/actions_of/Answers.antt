use Rattle.cargo_toml_tools.proofs.Cited.{◌∙◌, action_at, ap, deref, Feature, IsJoin, join_option, join_option_none, None, option_copied, option_map_or, rest_all, rest_more, subst, sym}
use Rattle.cargo_toml_tools.proofs.Reaching.{joined, joined_is, joined_next}
use Rattle.cargo_toml_tools.proofs.document.reached.actions_of.Goals as goal

pub loop-name-preserved-in-Continue-1 : goal.loop-name-preserved-in-Continue-1
loop-name-preserved-in-Continue-1 g c = λ k.
    joined_next c.args.features.now k _ _ c.in-Some.name.now _ _ _ (rest_more deref _ _ _ c.in-Some.name c.in-Some.is c.next.ensures.steps)
    (c.in_ok-add_actions.ensures k ∙ ap (join_option (action_at c.loop-name.actions k))
    (sym (ap (λ o. option_map_or (λ (f : Feature). action_at f.enables_deps k) o None) (sym c.get.ensures.value ∙ ap option_copied c.in-Some-get.is))))
    (c.loop-name.invariant k)

pub loop-name-preserved : goal.loop-name-preserved
loop-name-preserved g c = λ k.
    joined_next c.args.features.now k _ _ c.in-Some.name.now _ _ _ (rest_more deref _ _ _ c.in-Some.name c.in-Some.is c.next.ensures.steps)
    (sym (ap (join_option (action_at c.loop-name.actions k))
    (ap (λ o. option_map_or (λ (f : Feature). action_at f.enables_deps k) o None) (sym c.get.ensures.value ∙ ap option_copied c.in_default.is)) ∙ join_option_none _))
    (c.loop-name.invariant k)

pub returns : goal.returns
returns g c = λ k.
    subst (IsJoin _) (sym (sym (ap (joined c.args.features.now k (action_at c.loop-name.actions k)) (rest_all deref _ _ _ c.in-None.is c.next.ensures.steps)) ∙ c.loop-name.invariant k))
    (joined_is c.args.features.now k c.args.names.now.keys)
