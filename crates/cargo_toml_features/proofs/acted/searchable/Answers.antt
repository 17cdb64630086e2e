use Rattle.std.proofs.Common.{rules}
use Rattle.cargo_toml_features.proofs.ByPlace.{same_among}
use Rattle.cargo_toml_features.proofs.acted.searchable.Goals as goal

pub returns-then-len-gt-FEW-clause-same : goal.returns-then-len-gt-FEW-clause-same
returns-then-len-gt-FEW-clause-same c = search (rules, same_among)
