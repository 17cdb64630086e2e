use Rattle.cargo_toml_lint.proofs.Cited.{◌<◌, ◌||◌, ◌≡◌, ◌≤◌, false, get_or, length, ℕ}
use Rattle.cargo_toml_lint.proofs.reach.join.Given as goal

abbrev pub invariant-loop-k : goal.invariant-loop-k
invariant-loop-k l = record {
  len : length l.flags.items ≡ length l.initial.flags.items;
  done : (j : ℕ) → j < l.k → get_or l.flags.items j false ≡ (get_or l.initial.flags.items j false || get_or l.other j false);
  left : (j : ℕ) → l.k ≤ j → get_or l.flags.items j false ≡ get_or l.initial.flags.items j false;
}
