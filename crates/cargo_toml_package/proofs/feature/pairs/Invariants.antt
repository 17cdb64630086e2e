use Rattle.cargo_toml_package.proofs.Cited.{OthersSoFar, WrongShape, [], feature_meaning, feature_of}
use Rattle.cargo_toml_package.proofs.feature.pairs.Given as goal

abbrev pub invariant-loop-name : goal.invariant-loop-name
invariant-loop-name l = OthersSoFar _ _ feature_meaning feature_of WrongShape [] l.initial.name-iterator l.name-iterator l.pairs.items
