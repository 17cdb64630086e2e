use Rattle.std.proofs.Common.{string_bytes, rules}
use Rattle.cargo_toml_features.proofs.ByPlace.{same_among}
use Rattle.cargo_toml_features.proofs.redundant.redundant_of.Goals as goal

pub returns : goal.returns
returns c = search (rules, string_bytes, same_among)
