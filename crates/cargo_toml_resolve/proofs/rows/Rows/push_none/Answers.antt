use Rattle.{std.proofs.Common.arith, std.proofs.lemmas.List.append-nil, cargo_toml_resolve.proofs.Spans.pushed_inside, cargo_toml_resolve.proofs.Spans.rows_pushed}
use Rattle.cargo_toml_resolve.proofs.rows.Rows.push_none.Goals as goal

pub invariant_of-self-2 : goal.invariant_of-self-2
invariant_of-self-2 c = grind (arith, pushed_inside c.self.inside.nodes.items, append-nil c.self.inside.nodes.items, c.self.invariant)

pub returns : goal.returns
returns c = grind (arith, rows_pushed c.self.inside.nodes.items, append-nil c.self.inside.nodes.items, c.self.invariant)
