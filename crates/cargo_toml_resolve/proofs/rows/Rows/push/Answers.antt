use Rattle.{std.proofs.Common.arith, cargo_toml_resolve.proofs.Spans.still_inside, cargo_toml_resolve.proofs.Spans.pushed_inside, cargo_toml_resolve.proofs.Spans.rows_pushed}
use Rattle.cargo_toml_resolve.proofs.rows.Rows.push.Goals as goal

pub invariant_of-self-in_err-push : goal.invariant_of-self-in_err-push
invariant_of-self-in_err-push c = grind (arith, still_inside, c.self.invariant)

pub invariant_of-self-2 : goal.invariant_of-self-2
invariant_of-self-2 c = grind (arith, pushed_inside, c.self.invariant)

pub returns : goal.returns
returns c = grind (arith, rows_pushed, c.self.invariant)
