use Rattle.std.proofs.Common.{length}
use Rattle.cargo_toml_check.proofs.alone.+alone.Given as goal

abbrev pub decreases-alone : goal.decreases-alone
decreases-alone l = length l.path.now
