use Rattle.cargo_toml_lint.proofs.Cited.{◌↔◌, ◌≡◌, ◌≢◌, ◌⊎◌, Among, IsFlagged, IsTrue, length, take, ℕ}
use Rattle.cargo_toml_lint.proofs.reach.Reach.add_named.Given as goal

abbrev pub invariant-loop-x : goal.invariant-loop-x
invariant-loop-x l = record {
  len : length l.flags.items ≡ length l.initial.flags.items;
  flags : (y : ℕ) → IsFlagged l.flags.items y ↔ (IsFlagged l.initial.flags.items y ⊎ (IsTrue l.is_wanted × (y ≢ l.a) × Among (take l.x-index l.x-items) y));
}
