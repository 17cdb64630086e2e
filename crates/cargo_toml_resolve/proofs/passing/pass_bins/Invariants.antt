use Rattle.std.proofs.Common.{◌≤◌, length}
use Rattle.cargo_toml_resolve.{specs.Passing.AreKnown, specs.Passing.bins_of, specs.Passing.AreSameButBins, proofs.BinTurns.Turned}
use Rattle.cargo_toml_resolve.proofs.passing.pass_bins.Given as goal

abbrev pub invariant-loop-r : goal.invariant-loop-r
invariant-loop-r l = record {
  known : AreKnown l.known.items l.features.items;
  same : AreSameButBins l.initial.features.items l.features.items;
  inside : l.r ≤ length l.initial.features.items;
  turned : Turned l.redirects l.flags (bins_of l.initial.features.items) (length l.initial.features.items) l.r (bins_of l.features.items);
}
