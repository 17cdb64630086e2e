use Rattle.std.proofs.Common.{◌≡◌, length}
use Rattle.cargo_toml_check.proofs.check.placed.Given as goal

abbrev pub invariant-loop-fault-2 : goal.invariant-loop-fault-2
invariant-loop-fault-2 l = length l.all.items ≡ l.fault-index
