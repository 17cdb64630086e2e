use Rattle.cargo_toml_resolve.proofs.BinTurns.{AreBlank}
use Rattle.cargo_toml_resolve.proofs.passing.known_bins.Given as goal

abbrev pub invariant-loop : goal.invariant-loop
invariant-loop l = AreBlank l.known.items l.index
