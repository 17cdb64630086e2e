use Rattle.cargo_toml_resolve.proofs.Learning.{led_nowhere}
use Rattle.cargo_toml_resolve.proofs.numbering.leads_nowhere.Goals as goal

pub returns : goal.returns
returns c = λ on x l. led_nowhere c.args.feature.now (c.is_empty.ensures.0 c.if-not-is_empty.false) (c.is_empty-2.ensures.0 on) x l
