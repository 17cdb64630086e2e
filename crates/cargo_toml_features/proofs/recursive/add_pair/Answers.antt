use Rattle.cargo_toml_features.proofs.Cited.{AddsPair, ap, map_with_value, rules, subst, unwrap_or, ◌∙◌}
use Rattle.cargo_toml_features.proofs.Pending.{pair_listed}
use Rattle.cargo_toml_features.proofs.recursive.add_pair.Goals as goal

pub returns : goal.returns
returns g c =
    let written = map_with_value c.in_ok-dependencies.field-0 c.push.new.self in
    let listed : AddsPair c.args.key.now c.args.pair c.args.dependencies.now written =
    pair_listed c.args.key.now c.args.pair c.args.dependencies.now written c.new.result c.or_insert.result.now c.push.new.self (c.in_ok-dependencies.ensures.update.0 c.push.new.self) c.new.ensures.items
    (c.or_insert.ensures.value ∙ ap (λ o. unwrap_or o c.new.result) c.in_ok-dependencies.ensures.value) c.in_ok-push.ensures.items in
    subst (AddsPair c.args.key.now c.args.pair c.args.dependencies.now) (search rules) listed
