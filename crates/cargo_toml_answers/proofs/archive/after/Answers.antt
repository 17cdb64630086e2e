use Rattle.cargo_toml_answers.proofs.Cutting.{after_is}
use Rattle.cargo_toml_answers.proofs.archive.after.Goals as goal

pub returns : goal.returns
returns c = after_is c.args.begin.now c.args.text.now c.strip_prefix.result c.strip_prefix.ensures.cases
