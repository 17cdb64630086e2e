use Rattle.cargo_toml_features.proofs.{Placed.feature_missing, Requiring.required_nowhere}
use Rattle.std.proofs.Common.{rules}
use Rattle.cargo_toml_features.proofs.required.require.Goals as goal

pub returns-in_default-clause-required : goal.returns-in_default-clause-required
returns-in_default-clause-required c = search (rules, required_nowhere, feature_missing)
