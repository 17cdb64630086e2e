use Rattle.cargo_toml_lint.proofs.Cited.{◌∙◌, map, string_bytes}
use Rattle.cargo_toml_lint.proofs.Gathered.{listed_in}
use Rattle.cargo_toml_lint.proofs.known.Known.lists.Goals as goal

pub returns : goal.returns
returns c = c.contains_key.ensures
    ∙ listed_in (λ v. map string_bytes v.items) c.args.name.now c.args.self.now.features.now.entries
