use Rattle.cargo_toml_features.proofs.Cited.{Some, ap, option_copied, sym, value_at, ◌∙◌, ◌≡◌}
use Rattle.cargo_toml_features.proofs.Pending.{key_of, pushes_none, pushes_one}
use Rattle.cargo_toml_features.proofs.recursive.push_named.Goals as goal

pub loop-name-preserved-in-Continue-1 : goal.loop-name-preserved-in-Continue-1
loop-name-preserved-in-Continue-1 g c =
    let here : value_at c.args.features.now c.in-Some.name.now.now ≡ Some c.in-Some-get.named.now = sym c.get.ensures.value ∙ ap option_copied c.in-Some-get.is in
    pushes_one _ _ _ _ _ _ c.in-Some.name.now c.in-Some.ensures.steps c.loop-name.invariant c.in-Some-get.named _ here (key_of c.args.features.now c.requires c.in-Some.name.now.now c.in-Some-get.named.now here) c.in_ok-push.ensures.items

pub loop-name-preserved : goal.loop-name-preserved
loop-name-preserved g c = pushes_none _ _ _ _ _ _ c.in-Some.name.now c.in-Some.ensures.steps c.loop-name.invariant (sym c.get.ensures.value ∙ ap option_copied c.in_default.is)
