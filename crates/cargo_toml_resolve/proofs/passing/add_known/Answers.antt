use Rattle.cargo_toml_features.proofs.TextKeys.{inserted}
use Rattle.cargo_toml_resolve.proofs.passing.add_known.Goals as goal

pub returns-clause-added : goal.returns-clause-added
returns-clause-added c = inserted c.args.bin.now c.args.known.now c.insert.new.self c.in_ok-insert.ensures.updates
