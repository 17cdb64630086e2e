use Rattle.std.proofs.Common.{[]}
use Rattle.cargo_toml_parts.proofs.Readers.{OthersSoFar}
use Rattle.cargo_toml_parts.proofs.read.owned_pairs.Given as goal

abbrev pub invariant-loop-key : goal.invariant-loop-key
invariant-loop-key g l = OthersSoFar _ _ g.T.Read.meaning g.T.Read.reads g.T.Read.refuses [] l.initial.key-iterator l.key-iterator l.pairs.items
