use Rattle.cargo_toml_resolve.proofs.Cited.{IsFlagOf, false, length, names_of, nth_text, slice_index_or, ℕ, ◌<◌, ◌≡◌}
use Rattle.cargo_toml_resolve.proofs.flags.hidden_flags.Given as goal

abbrev pub invariant-loop-feature : goal.invariant-loop-feature
invariant-loop-feature g l = record {
  len : length l.flags.items ≡ l.feature-index;
  flags : (i : ℕ) → i < l.feature-index → IsFlagOf g.F.Fn l.filter (nth_text (names_of l.features) i) (slice_index_or l.flags.items i false);
}
