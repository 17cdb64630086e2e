use Rattle.{std.proofs.Common.arith, cargo_toml_resolve.proofs.Spans.set_inside, cargo_toml_resolve.proofs.Spans.rows_set}
use Rattle.cargo_toml_resolve.proofs.rows.Rows.replace.Goals as goal

pub invariant_of-self-2 : goal.invariant_of-self-2
invariant_of-self-2 c = grind (arith, set_inside, c.self.invariant)

pub returns : goal.returns
returns c = grind (arith, rows_set, c.self.invariant)
