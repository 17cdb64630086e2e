use Rattle.std.proofs.Common.{refl}
use Rattle.cargo_toml_package.proofs.Entries.{entry_at-map}
use Rattle.cargo_toml_package.proofs.workspace_dependencies.template_at.Goals as goal

pub returns-in-None-clause-found : goal.returns-in-None-clause-found
returns-in-None-clause-found c = λ known. rw (c.get.ensures.value, entry_at-map) refl
