use Rattle.cargo_toml_lint.proofs.Cited.{◌≡◌, [], length, row_at, ℕ}
use Rattle.cargo_toml_lint.proofs.reach.unsettled.Given as goal

abbrev pub invariant-loop : goal.invariant-loop
invariant-loop l = record {
  len : length l.rows.items ≡ l.counter;
  empty : (a : ℕ) → row_at l.rows.items a ≡ [];
}
