use Rattle.cargo_toml_features.proofs.TextKeys.{inserted}
use Rattle.cargo_toml_features.proofs.action.add_text.Goals as goal

pub returns : goal.returns
returns c = inserted c.args.text.now c.args.set.now c.insert.new.self c.in_ok-insert.ensures.updates
