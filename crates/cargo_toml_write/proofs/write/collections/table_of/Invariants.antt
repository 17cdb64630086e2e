use Rattle.cargo_toml_parts.specs.Reads.{map_meaning, pairs_meaning}
use Rattle.cargo_toml_write.proofs.Rows.{Gathers}
use Rattle.cargo_toml_write.proofs.write.collections.table_of.Given as goal

abbrev pub invariant-loop-key : goal.invariant-loop-key
invariant-loop-key g l = Gathers g.T.ToValue.way (map_meaning g.T.ToValue.meaning l.map) (pairs_meaning g.T.ToValue.meaning l.key-iterator) l.pairs.items
