use Rattle.cargo_toml_lint.proofs.Cited.{◌≢◌, Among, Path, take, ℕ}
use Rattle.cargo_toml_lint.proofs.reach.Reach.is_in_ring.Given as goal

abbrev pub invariant-loop-x : goal.invariant-loop-x
invariant-loop-x l = (y : ℕ) → Among (take l.x-index l.targets) y → y ≢ l.own → ¬ Path l.self.next.items y l.own
