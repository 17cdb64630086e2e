use Rattle.std.proofs.Common.{length}
use Rattle.cargo_toml_bench.proofs.plain.+lose_all.Given as goal

abbrev pub decreases-lose_all : goal.decreases-lose_all
decreases-lose_all g l = length l.names.now
