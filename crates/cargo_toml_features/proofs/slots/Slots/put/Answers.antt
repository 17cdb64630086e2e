use Rattle.cargo_toml_features.proofs.Placed.{value_put}
use Rattle.std.proofs.Common.{rules}
use Rattle.cargo_toml_features.proofs.slots.Slots.put.Goals as goal

pub returns-clause-held : goal.returns-clause-held
returns-clause-held g c = search (rules, value_put)
