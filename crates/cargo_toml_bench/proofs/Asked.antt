-- What a resolver answers, by its filter and at its limit.
use Rattle.cargo_toml_bench.proofs.Cited.{Answer, AreBinsComplete, Asked, Bool, Bor, FilterTells, IsParsed, ManifestMeaning, None, Option, Text, arith, by_true, false, is_removed, is_some, parsed_table, subst, ℕ, ◌≡◌}

-- without a filter no hidden name is kept
pub tells_none : {F : Type 0} (g : Asked F) (filter : Option (Bor F)) (keep : Text → Bool) → filter ≡ None → ((n : Text) → keep n ≡ false) → FilterTells g filter keep
tells_none g filter keep e none = grind arith

module _ (keep : Text → Bool) (a : Answer) {n k : ℕ} (limit : n ≡ k) where
  pub parsed_at : {M : Type 0} (m : ManifestMeaning M) → IsParsed n m keep a → IsParsed k m keep a
  parsed_at m is = subst (λ n. IsParsed n m keep a) limit is

  -- what something stands for is what the test doesn't keep
  pub complete_at : {M : Type 0} (m : ManifestMeaning M) → IsParsed n m keep a → AreBinsComplete n m (λ r. is_some (a.redirects r)) a → AreBinsComplete k m (is_removed (parsed_table k m) keep) a
  complete_at m is are =
      subst (λ n. AreBinsComplete n m (is_removed (parsed_table n m) keep) a) limit
      (subst (λ removed. AreBinsComplete n m removed a) (λ i r. by_true (is_some (a.redirects r)) (is_removed (parsed_table n m) keep r) (is.redirected r) i) are)
