use Rattle.cargo_toml_audit.proofs.Cited.{length}
use Rattle.cargo_toml_audit.proofs.members.patterns.+is_among.Given as goal

abbrev pub decreases-is_among : goal.decreases-is_among
decreases-is_among l = length l.content.now
