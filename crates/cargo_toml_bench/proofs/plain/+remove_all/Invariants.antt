use Rattle.std.proofs.Common.{length}
use Rattle.cargo_toml_bench.proofs.plain.+remove_all.Given as goal

abbrev pub decreases-remove_all : goal.decreases-remove_all
decreases-remove_all g l = length l.removed.now
