use Rattle.std.proofs.Common.{take_all, rules}
use Rattle.cargo_toml_features.proofs.Redundancy.{as_many, turn_more, under_names}
use Rattle.cargo_toml_features.proofs.redundant.redundant_features.Goals as goal

pub loop-dependency-preserved : goal.loop-dependency-preserved
loop-dependency-preserved c = search (rules, turn_more)

pub invariant_of-result : goal.invariant_of-result
invariant_of-result c = search (rules, take_all, as_many)

pub returns : goal.returns
returns c = search (rules, take_all, under_names)
