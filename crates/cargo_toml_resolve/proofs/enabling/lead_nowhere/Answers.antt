use Rattle.std.proofs.Common.{arith, inl, inr}
use Rattle.{std.proofs.lemmas.Bool.cases_eq, cargo_toml_resolve.proofs.Learning.leads_not_at}
use Rattle.cargo_toml_resolve.proofs.enabling.lead_nowhere.Goals as goal

pub loop-feature-preserved : goal.loop-feature-preserved
loop-feature-preserved c = λ j x lt. elim (cases_eq j c.loop-feature.feature-index) [
  | inl at ↦ leads_not_at c.args.features.now j c.loop-feature.feature-index c.feature-item.result x at c.loop-feature-test.true c.feature-item.is (c.leads_nowhere.ensures c.if-not-leads_nowhere.false x)
  | inr ne ↦ c.loop-feature.invariant j x (omega (arith, lt, ne))
]

pub returns : goal.returns
returns c = λ on j x lt. c.loop-feature.invariant j x (omega (arith, lt, c.loop-feature-test.false))
