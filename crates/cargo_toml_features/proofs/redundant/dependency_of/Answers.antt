use Rattle.std.proofs.Common.{option_map, rules}
use Rattle.cargo_toml_features.proofs.redundant.dependency_of.Goals as goal

pub returns : goal.returns
returns c = search (rules, option_map)
