use Rattle.cargo_toml_lint.proofs.Cited.{nat_eq, rules}
use Rattle.cargo_toml_lint.proofs.names.is_never_required.Goals as goal

pub returns-in-Some : goal.returns-in-Some
returns-in-Some c = search (rules, nat_eq)
