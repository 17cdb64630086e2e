-- The names in the places that pass, as a loop over places puts them into a set.
use Rattle.cargo_toml_lint.proofs.Cited.{◌+◌, ◌<◌, ◌||◌, ◌↔◌, ◌≡◌, [], arith, Bor, BTreeSet, bytes_eq, bytes_eq-Decides, cases_eq, false≢true, IsTrue, List, none_in, nth_text, or_cases, or_left, or_right, set_has, Text, ℕ}

module _ (names : List Text) (P : ℕ → Type 0) where
  -- the set has the names in the places before i that pass
  abbrev pub SoFar : ℕ → BTreeSet (Bor Text) → Type 0
  SoFar i s = (f : Text) → IsTrue (set_has s f) ↔ ((a : ℕ) × (a < i) × (nth_text names a ≡ f) × P a)

  pub so_far_none : (s : BTreeSet (Bor Text)) → s.keys ≡ [] → SoFar 0 s
  so_far_none s none f = grind (arith, false≢true, none_in)

  later : (f : Text) (i : ℕ) → ((a : ℕ) × (a < i) × (nth_text names a ≡ f) × P a) → (a : ℕ) × (a < i + 1) × (nth_text names a ≡ f) × P a
  later f i w = grind arith

  pub so_far_put : (i : ℕ) (s n : BTreeSet (Bor Text)) (key : Text) → nth_text names i ≡ key → P i → ((f : Text) → set_has n f ≡ (set_has s f || bytes_eq f key)) → SoFar i s → SoFar (i + 1) n
  so_far_put i s n key at p put h f = grind (arith, or_cases, later, bytes_eq-Decides, cases_eq, or_right, or_left)

  pub so_far_skip : (i : ℕ) (s : BTreeSet (Bor Text)) → (¬ P i) → SoFar i s → SoFar (i + 1) s
  so_far_skip i s lacks h f = grind (arith, later, cases_eq)
