use Rattle.cargo_toml_lint.proofs.Cited.{rules}
use Rattle.cargo_toml_lint.proofs.Items.{acting, naming}
use Rattle.cargo_toml_lint.proofs.faults.text_fault.Goals as goal

pub returns-then-acts : goal.returns-then-acts
returns-then-acts c = search (rules, acting)

pub returns-else-acts : goal.returns-else-acts
returns-else-acts c = search (rules, naming)
