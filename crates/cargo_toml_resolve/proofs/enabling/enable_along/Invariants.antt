use Rattle.{std.proofs.Common.take, cargo_toml_graph.specs.Reach.Among, cargo_toml_resolve.specs.Enabling.GainEnabler}
use Rattle.cargo_toml_resolve.proofs.enabling.enable_along.Given as goal

abbrev pub invariant-loop-at : goal.invariant-loop-at
invariant-loop-at l = GainEnabler (Among (take l.at-index l.row)) l.source l.initial.features.items l.features.items
