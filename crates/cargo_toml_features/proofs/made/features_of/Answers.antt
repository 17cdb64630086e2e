use Rattle.cargo_toml_features.proofs.Cited.{rules}
use Rattle.cargo_toml_features.proofs.Making.{turn_made}
use Rattle.cargo_toml_features.proofs.made.features_of.Goals as goal

pub loop-vertex-preserved : goal.loop-vertex-preserved
loop-vertex-preserved c = search (rules, turn_made)
