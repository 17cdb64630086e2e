use Rattle.cargo_toml_lint.proofs.Cited.{ap₂, rules}
use Rattle.cargo_toml_lint.proofs.names.is_bad_text.Goals as goal

pub returns-in-Some : goal.returns-in-Some
returns-in-Some c = search (rules, ap₂)
