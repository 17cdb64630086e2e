use Rattle.{std.proofs.Common.take, cargo_toml_graph.specs.Reach.Among, cargo_toml_resolve.specs.Numbers.IsWanted, cargo_toml_resolve.specs.Numbers.FindsNamed}
use Rattle.cargo_toml_resolve.proofs.walk.visit.Given as goal

abbrev pub invariant-loop-x : goal.invariant-loop-x
invariant-loop-x l = FindsNamed (λ y. Among (take l.x-index l.targets) y × IsWanted l.flags l.wanted y) l.initial.found.items l.found.items l.initial.met l.met
