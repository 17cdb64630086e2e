use Rattle.cargo_toml_features.proofs.Requiring.{blank, own_next, required_more}
use Rattle.std.proofs.Common.{rules}
use Rattle.cargo_toml_features.proofs.required.require_all.Goals as goal

pub loop-requirement-preserved : goal.loop-requirement-preserved
loop-requirement-preserved c = search (rules, required_more, blank, own_next)
