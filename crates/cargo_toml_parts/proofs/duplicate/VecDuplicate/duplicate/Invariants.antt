use Rattle.std.proofs.Common.{◌≡◌, map, take}
use Rattle.cargo_toml_parts.proofs.duplicate.VecDuplicate.duplicate.Given as goal

abbrev pub invariant-loop-item : goal.invariant-loop-item
invariant-loop-item g l = map g.T.Read.meaning l.copy.items ≡ map g.T.Read.meaning (take l.item-index l.item-items)
