use Rattle.{std.proofs.Common.◌≡◌, std.proofs.Common.take, cargo_toml_graph.specs.Removal.put_each, cargo_toml_resolve.specs.Texts.texts_now}
use Rattle.cargo_toml_bench.proofs.plain.put_bins.Given as goal

abbrev pub invariant-loop-bin : goal.invariant-loop-bin
invariant-loop-bin l = texts_now l.own.items ≡ put_each (texts_now l.initial.own.items) (texts_now (take l.bin-index l.bins))
