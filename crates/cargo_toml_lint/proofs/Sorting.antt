-- Findings in their order, each once.
use Rattle.cargo_toml_lint.proofs.Cited.{About, Among, Any-dedup, Bool, Code, Contains, Contains-from_dedup, Contains-permutation, DiffersFromLast, Finding, IsEquivalence, IsFiltered, IsFound, IsPermutation, IsPermutation-sym, IsSorted, IsStrictlySortedBy, IsStrictlySortedBy-dedup, List, Ordering, Text, [], about, and_parts, ap, arith, bytes_eq-Decides, dedup, dedup_is, eq_by_cmp_equiv, get_or, inl, inr, is_eq, length, map, refl, same_true, subst, suc, sym, the_type, true, zero, ℕ, ◌<◌, ◌↔◌, ◌∙◌, ◌∷◌, ◌≡◌}
use Rattle.cargo_toml_lint.specs.contracts.finding.FindingOrd.TheImpl as finding_order
use Rattle.cargo_toml_lint.specs.contracts.finding.FindingOrd.TheImpl.Laws as laws

-- what is found is what some finding is about
found_where : (xs : List Finding) (y : About)
    → Among (map about xs) y ↔ ((x : Finding) × Contains xs x × (about x ≡ y))
found_where xs y = (into xs, λ h. out xs h.0 h.1.0 h.1.1 h.1.2 h.2)
  where
    into : (xs : List Finding) → Among (map about xs) y
        → (x : Finding) × Contains xs x × (about x ≡ y)
    into [] there = absurd there
    into (x ∷ xs) (inl is) = (x, (0, omega arith, refl), sym is)
    into (x ∷ xs) (inr there) = let h = into xs there in
        (h.0, (suc h.1.0, (let below = h.1.1 in omega arith), h.1.2), h.2)

    out : (xs : List Finding) (x : Finding) (k : ℕ) → k < length xs → get_or xs k x ≡ x
        → about x ≡ y → Among (map about xs) y
    out [] x k below at is = absurd (omega arith)
    out (z ∷ xs) x zero below at is = inl (sym is ∙ ap about (sym at))
    out (z ∷ xs) x (suc k) below at is = inr (out xs x k (omega arith) at is)

abbrev cmp : Finding → Finding → Ordering
cmp = (finding_order.cmp-value).it

-- findings that are tied in their order are about the same
tied : (x y : Finding) → is_eq (cmp x y) ≡ true → about x ≡ about y
tied x y e =
    let p = and_parts _ _ (laws.matches_eq-law x y ∙ e) in
    let q = and_parts _ _ p.1 in
    λ i. (
      same_true the_type tt x.code y.code p.0 i,
      (bytes_eq-Decides x.feature.now y.feature.now).0 q.0 i,
      (bytes_eq-Decides x.text.now y.text.now).0 q.1 i,
    )

-- `old` sorted, then without doubles
module _ {eq : Finding → Finding → Bool} (ties : (x y : Finding) → eq x y ≡ is_eq (cmp x y))
    (old sorted new : List Finding) (moved : IsPermutation old sorted)
    (filtered : IsFiltered (DiffersFromLast eq) [] sorted new) where
  new_is : new ≡ dedup eq sorted
  new_is = dedup_is eq sorted new filtered

  alike : eq ≡ (λ (x y : Finding). is_eq (cmp x y))
  alike = λ i x y. ties x y i

  pub same_found : (c : Code) (f t : Text) → IsFound new c f t ↔ IsFound old c f t
  same_found c f t = (
    λ there.
        let h = (found_where new (c, f, t)).0 there in
        let kept = Contains-from_dedup eq sorted h.0 (subst (λ xs. Contains xs h.0) new_is h.1) in
        (found_where old (c, f, t)).1 (
          h.0,
          Contains-permutation sorted old h.0
              (IsPermutation-sym old sorted moved) kept,
          h.2,
        ),
    λ there.
        let h = (found_where old (c, f, t)).0 there in
        let laws_of : IsEquivalence eq = subst IsEquivalence (sym alike) (eq_by_cmp_equiv
        laws.total-law) in
        let k = Any-dedup laws_of sorted h.0 (Contains-permutation old sorted h.0 moved h.1) in
        (found_where new (c, f, t)).1 (
          k.1,
          subst (λ xs. Contains xs k.1) (sym new_is) (k.0, k.2, k.3),
          sym (tied h.0 k.1 (sym (ties h.0 k.1) ∙ k.4)) ∙ h.2,
        ),
  )

  pub new_sorted : IsSorted cmp sorted → IsStrictlySortedBy cmp new
  new_sorted up = grind (arith, IsStrictlySortedBy-dedup laws.total-law, new_is)
