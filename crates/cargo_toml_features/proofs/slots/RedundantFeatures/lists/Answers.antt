use Rattle.cargo_toml_features.proofs.ByPlace.{placed}
use Rattle.std.proofs.Common.{rules}
use Rattle.cargo_toml_features.proofs.slots.RedundantFeatures.lists.Goals as goal

pub returns : goal.returns
returns c = search (rules, placed)
