use Rattle.cargo_toml_write.proofs.CompletedTold.{completed_told}
use Rattle.cargo_toml_write.proofs.laws.completed_manifests_are_told.Goals as goal

pub returns-clause-completed : goal.returns-clause-completed
returns-clause-completed g c = completed_told
