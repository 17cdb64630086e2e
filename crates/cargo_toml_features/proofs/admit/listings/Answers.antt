use Rattle.cargo_toml_features.proofs.Cited.{admitted_ascends, cut, cut_is_admitted, rules}
use Rattle.cargo_toml_features.proofs.Listings.{ascending, names_listed}
use Rattle.cargo_toml_features.proofs.admit.listings.Goals as goal

pub returns-clause-all : goal.returns-clause-all
returns-clause-all c = search (rules, cut, cut_is_admitted, ascending)

pub returns-clause-ascend : goal.returns-clause-ascend
returns-clause-ascend c = search (rules, ascending, cut, cut_is_admitted, names_listed, admitted_ascends)
