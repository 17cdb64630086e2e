use Rattle.std.proofs.Common.{◌≡◌, length}
use Rattle.cargo_toml_resolve.specs.{Holding.AllTakeOver, Texts.texts_now}
use Rattle.cargo_toml_resolve.proofs.keeping.keep_all.Given as goal

abbrev pub invariant-loop-own : goal.invariant-loop-own
invariant-loop-own l = record {
  taken : AllTakeOver l.graph.edges l.graph.names l.graph.flags.items (texts_now l.graph.texts.items) l.own l.fn.features.items l.features.items;
  room : length l.walk.met ≡ length l.graph.flags.items;
}
