use Rattle.{std.proofs.Common.arith, cargo_toml_resolve.proofs.BinTurns.put_more}
use Rattle.cargo_toml_resolve.proofs.passing.put_bins.Goals as goal

pub put_bin-requires : goal.put_bin-requires
put_bin-requires c = c.loop-bin.invariant.known

pub loop-bin-preserved : goal.loop-bin-preserved
loop-bin-preserved c = grind (arith, put_more)
