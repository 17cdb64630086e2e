use Rattle.cargo_toml_lint.proofs.Cited.{arith}
use Rattle.cargo_toml_lint.proofs.Edges.{listed_at}
use Rattle.cargo_toml_lint.proofs.linking.texts_of.Goals as goal

pub returns-in-Some : goal.returns-in-Some
returns-in-Some c = grind (arith, listed_at c.args.known.now.features.now c.args.name.now, c.get.ensures.value, c.in-Some.is, c.as_slice.ensures.value)

pub returns-in-None : goal.returns-in-None
returns-in-None c = grind (arith, listed_at c.args.known.now.features.now c.args.name.now, c.get.ensures.value, c.in-None.is)
