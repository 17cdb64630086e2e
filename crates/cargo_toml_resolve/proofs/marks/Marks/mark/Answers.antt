use Rattle.{std.proofs.Common.arith, std.proofs.Common.refl, cargo_toml_resolve.proofs.Steps.one_marked}
use Rattle.cargo_toml_resolve.proofs.marks.Marks.mark.Goals as goal

pub returns-then-stamp-self-clause-marked : goal.returns-then-stamp-self-clause-marked
returns-then-stamp-self-clause-marked c = grind (arith, one_marked c.self.inside.stamps.items c.place.result c.index_mut-stamp.result.now c.self.inside.epoch c.if-stamp-self.true)

pub returns-clause-marked : goal.returns-clause-marked
returns-clause-marked c = grind (arith, one_marked c.self.inside.stamps.items c.place.result c.self.inside.epoch c.self.inside.epoch refl)
