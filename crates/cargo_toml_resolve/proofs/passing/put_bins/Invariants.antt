use Rattle.{std.proofs.Common.◌≡◌, std.proofs.Common.take, cargo_toml_graph.specs.Removal.put_each, cargo_toml_resolve.specs.Passing.Knows, cargo_toml_resolve.specs.Texts.texts_now}
use Rattle.cargo_toml_resolve.proofs.passing.put_bins.Given as goal

abbrev pub invariant-loop-bin : goal.invariant-loop-bin
invariant-loop-bin l = record {
  put : texts_now l.own.items ≡ put_each (texts_now l.initial.own.items) (texts_now (take l.bin-index l.bins));
  known : Knows l.known (texts_now l.own.items);
}
