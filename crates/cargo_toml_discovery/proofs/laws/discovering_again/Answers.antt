use Rattle.cargo_toml_discovery.proofs.Again.{discovered-again}
use Rattle.cargo_toml_discovery.proofs.laws.discovering_again.Goals as goal

pub returns : goal.returns
returns c = λ s a. discovered-again s a
