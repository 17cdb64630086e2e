use Rattle.cargo_toml_features.proofs.Cited.{IsMadeOf, map, said_by, take}
use Rattle.cargo_toml_features.proofs.made.feature_of.Given as goal

abbrev pub invariant-loop-item : goal.invariant-loop-item
invariant-loop-item l = IsMadeOf l.vertex (map said_by (take l.item-index l.items)) l.feature
