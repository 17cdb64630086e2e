use Rattle.{std.proofs.Common.subst, cargo_toml_resolve.specs.Filter.FilterTells}
use Rattle.cargo_toml_resolve.proofs.filter.is_kept.Goals as goal

pub returns-in-Some-clause-told : goal.returns-in-Some-clause-told
returns-in-Some-clause-told g c = λ keep tells. subst (λ o. FilterTells g.F.Fn o keep) c.in-Some.is tells c.args.name.now c.answer.result c.answer.ensures
