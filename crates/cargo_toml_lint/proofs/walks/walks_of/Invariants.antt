use Rattle.cargo_toml_lint.proofs.Cited.{AreWalked}
use Rattle.cargo_toml_lint.proofs.walks.walks_of.Given as goal

abbrev pub invariant-loop-a : goal.invariant-loop-a
invariant-loop-a l = AreWalked l.links l.a l.reached.items l.by_default.items l.by_others.items
