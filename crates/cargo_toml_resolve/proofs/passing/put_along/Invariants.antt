use Rattle.{std.proofs.Common.take, cargo_toml_graph.specs.Reach.Among, cargo_toml_resolve.specs.Passing.AreKnown, cargo_toml_resolve.specs.Passing.Puts, cargo_toml_resolve.specs.Texts.texts_now}
use Rattle.cargo_toml_resolve.proofs.passing.put_along.Given as goal

abbrev pub invariant-loop-at : goal.invariant-loop-at
invariant-loop-at l = record {
  put : Puts (Among (take l.at-index l.row)) (texts_now l.bins) l.initial.features.items l.features.items;
  known : AreKnown l.known.items l.features.items;
}
