use Rattle.{std.proofs.Common.take, std.proofs.Common.false, std.proofs.Common.ℕ, cargo_toml_graph.specs.Reach.Among, cargo_toml_resolve.specs.Numbers.IsWanted}
use Rattle.cargo_toml_resolve.proofs.walk.has_flagged.Given as goal

abbrev pub invariant-loop-x : goal.invariant-loop-x
invariant-loop-x l = (x : ℕ) → Among (take l.x-index l.row) x → IsWanted l.flags false x
