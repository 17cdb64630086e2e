use Rattle.{std.proofs.Common.arith, cargo_toml_resolve.proofs.Steps.among_at, cargo_toml_resolve.proofs.Steps.among_more, cargo_toml_resolve.proofs.Steps.item_at}
use Rattle.cargo_toml_resolve.proofs.walk.has_flagged.Goals as goal

pub bounds-flags-place : goal.bounds-flags-place
bounds-flags-place c = grind (arith, item_at, among_at c.args.row.now c.loop-x.x-index c.loop-x-test.true, c.requires)

pub loop-x-preserved : goal.loop-x-preserved
loop-x-preserved c = grind (arith, among_more, item_at, c.loop-x.invariant)

pub returns-then-flags-place : goal.returns-then-flags-place
returns-then-flags-place c = grind (arith, among_at c.args.row.now c.loop-x.x-index c.loop-x-test.true, item_at)
