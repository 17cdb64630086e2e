use Rattle.std.proofs.Common.{length}
use Rattle.cargo_toml_check.proofs.alone.+table_at.Given as goal

abbrev pub decreases-table_at : goal.decreases-table_at
decreases-table_at l = length l.path.now
