use Rattle.cargo_toml_features.proofs.Cited.{RedundantFeatures, Slots, Some, rules, ◌≡◌}
use Rattle.cargo_toml_features.proofs.redundant.long_lists.Goals as goal

some_same : {x y : Slots RedundantFeatures} → Some x ≡ Some y → x ≡ y
some_same e = cc

pub returns : goal.returns
returns c = search (rules, some_same)
