use Rattle.cargo_toml_package.proofs.Near.{are_entries-all}
use Rattle.cargo_toml_package.proofs.workspace_dependencies.near_of.Goals as goal

pub returns-then-len : goal.returns-then-len
returns-then-len c = λ empty. are_entries-all c.args.templates.now c.iter.result c.iter.ensures.rest c.iter.ensures.found
