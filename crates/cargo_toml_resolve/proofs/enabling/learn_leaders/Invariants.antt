use Rattle.cargo_toml_resolve.proofs.Learning.{HaveLearnt}
use Rattle.cargo_toml_resolve.proofs.enabling.learn_leaders.Given as goal

abbrev pub invariant-loop-own : goal.invariant-loop-own
invariant-loop-own l = HaveLearnt l.own l.initial.features.items l.features.items
