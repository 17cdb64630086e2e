use Rattle.cargo_toml_resolve.proofs.Cited.{IsFlagOf, false, names_of, nth_text, ℕ, ◌<◌}
use Rattle.cargo_toml_resolve.proofs.flags.hides_any.Given as goal

abbrev pub invariant-loop-feature : goal.invariant-loop-feature
invariant-loop-feature g l = (i : ℕ) → i < l.feature-index → IsFlagOf g.F.Fn l.filter (nth_text (names_of l.features) i) false
