use Rattle.{std.proofs.Common.arith, std.proofs.lemmas.Grind.common_steps, cargo_toml_resolve.proofs.Steps.read_at}
use Rattle.cargo_toml_resolve.proofs.kept.redirect_of.Goals as goal

pub set_of_nodes-requires : goal.set_of_nodes-requires
set_of_nodes-requires c = grind (arith, common_steps, c.row.ensures)

pub returns : goal.returns
returns c = grind (arith, read_at, c.place.ensures, c.requires.own)
