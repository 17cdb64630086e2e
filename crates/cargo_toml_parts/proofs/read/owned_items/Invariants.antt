use Rattle.cargo_toml_parts.proofs.Readers.{ItemsSoFar}
use Rattle.cargo_toml_parts.proofs.read.owned_items.Given as goal

abbrev pub invariant-loop-item : goal.invariant-loop-item
invariant-loop-item g l = ItemsSoFar _ _ g.T.Read.meaning g.T.Read.reads g.T.Read.refuses l.fn.items.items l.item-iterator.rest.items l.all.items
