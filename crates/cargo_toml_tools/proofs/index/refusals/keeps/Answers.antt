use Rattle.cargo_toml_tools.proofs.Cited.{◌∙◌, listed_in, rules}
use Rattle.toml.specs.View.{view}
use Rattle.cargo_toml_tools.proofs.index.refusals.keeps.Goals as goal

pub returns-in-Detailed : goal.returns-in-Detailed
returns-in-Detailed c =
    let same = c.contains_key.ensures ∙ listed_in view c.args.key.now c.deref.result.now.unstable.entries in
    search rules
