use Rattle.cargo_toml_lint.proofs.Leading.{text_at}
use Rattle.cargo_toml_lint.proofs.linking.Links.name.Goals as goal

pub returns : goal.returns
returns c = text_at c.args.self.now.names.items c.args.place c.index.result.now c.requires c.index.ensures
