use Rattle.cargo_toml_features.proofs.Cited.{bytes_eq_sym, get_or-map, map-append, rules}
use Rattle.cargo_toml_features.proofs.{Placed.feature_here, Placed.feature_set, Requiring.names_set, Requiring.required_at}
use Rattle.cargo_toml_features.proofs.required.require_at.Goals as goal

pub returns-in_err-push-clause-same_names : goal.returns-in_err-push-clause-same_names
returns-in_err-push-clause-same_names c = search (rules, names_set)

pub returns-clause-same_names : goal.returns-clause-same_names
returns-clause-same_names c = search (rules, names_set)

pub returns-clause-required : goal.returns-clause-required
returns-clause-required c = search (rules, required_at, feature_here, feature_set, get_or-map, bytes_eq_sym, map-append)
