use Rattle.cargo_toml_features.proofs.Cited.{AreMadeOf, take}
use Rattle.cargo_toml_features.proofs.made.features_of.Given as goal

abbrev pub invariant-loop-vertex : goal.invariant-loop-vertex
invariant-loop-vertex l = AreMadeOf l.items (take l.vertex-index l.vertices) l.features.items
