use Rattle.cargo_toml_answers.proofs.Cutting.{before_is}
use Rattle.cargo_toml_answers.proofs.archive.before.Goals as goal

pub returns : goal.returns
returns c = before_is c.args.end.now c.args.text.now c.strip_suffix.result c.strip_suffix.ensures.cases
