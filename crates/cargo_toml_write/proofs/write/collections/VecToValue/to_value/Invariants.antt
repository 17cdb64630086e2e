use Rattle.cargo_toml_write.proofs.Rows.{ItemsWritten}
use Rattle.cargo_toml_write.proofs.write.collections.VecToValue.to_value.Given as goal

abbrev pub invariant-loop-x : goal.invariant-loop-x
invariant-loop-x g l = ItemsWritten g.T.ToValue.way g.T.ToValue.meaning l.x-items l.x-index l.values.items
