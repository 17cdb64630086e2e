use Rattle.cargo_toml_write.proofs.Cited.{detail_of, feature_way, features_meaning, map_meaning, told_features}
use Rattle.cargo_toml_write.proofs.Rows.{Gathers, with_details}
use Rattle.cargo_toml_write.proofs.write.dependency.table_of.Given as goal

abbrev pub invariant-loop-name : goal.invariant-loop-name
invariant-loop-name l =
    Gathers feature_way (told_features (features_meaning l.lists l.details)) (with_details (map_meaning detail_of l.details) l.name-iterator) l.pairs.items
