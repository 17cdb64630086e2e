-- Where texts stand in a list, and in one that ascends in byte order.
use Rattle.cargo_toml_features.proofs.Cited.{Among, Any-dedup, Ascend, Bool, Bor, Contains, Contains-from_dedup, Contains-permutation, DiffersFromLast, Equal, Err, IfSome, IsAllAdjacentAnswer, IsBinarySearchResult, IsFiltered, IsPermutation, IsPermutation-sym, IsSearchInRange, IsSorted, IsStrictlySortedBy-dedup, IsTrue, Less, List, None, Ok, Option, Result, Text, [], among-true, ap, arith}
use Rattle.cargo_toml_features.proofs.Cited.{below_one_way, bytes_eq, bytes_eq-Decides, cases_lt, cases_order, common_steps, dedup, dedup_is, exact_bytes, false, false_from_ne_true, false≢true, first_below, get_or, get_or-map, inl, inr, is_among-true, is_below, is_eq-slice_cmp, is_some, length, length-map, less_from, list_any, map, map_push}
use Rattle.cargo_toml_features.proofs.Cited.{nat_cmp, nat_list_cmp_total, nat_list_eq_equiv, nth_text, on_equiv, on_total, others_ascend, refl, result_ok, rules, searchable_from_sorted, slice_cmp, sorted_from_all_adjacent, subst, suc, sym, take, take_more, texts_ascend, tied_itself, true, zero, ℕ, ◌++◌, ◌+◌, ◌<◌, ◌||◌, ◌↔◌, ◌∙◌, ◌∷◌, ◌≡◌}
use Rattle.std.specs.declared.cmp.Ordering.{Ordering}

pub among_at : {K : Type 0} (xs : List K) (k : ℕ) (d : K) → k < length xs → Among xs (get_or xs k d)
among_at [] k d below = absurd (omega arith)
among_at (x ∷ xs) zero d below = inl refl
among_at (x ∷ xs) (suc k) d below = inr (among_at xs k d (omega arith))

pub at_among : {K : Type 0} (xs : List K) (v d : K) → Among xs v → (k : ℕ) × (k < length xs) × (get_or xs k d ≡ v)
at_among [] v d there = absurd there
at_among (x ∷ xs) v d (inl is) = (0, omega arith, sym is)
at_among (x ∷ xs) v d (inr there) = let k = at_among xs v d there in (suc k.0, (let below = k.1 in omega arith), k.2)

-- a text at a later place is above
pub rises : (texts : List Text) → Ascend texts → (i j : ℕ) → i < j → j < length texts → IsTrue (is_below (nth_text texts i) (nth_text texts j))
rises [] up i j earlier below = absurd (omega arith)
rises (x ∷ xs) up i zero earlier below = absurd (omega arith)
rises (x ∷ xs) up zero (suc j) earlier below = first_below x xs up (nth_text xs j) (among_at xs j [] (omega arith))
rises (x ∷ xs) up (suc i) (suc j) earlier below = rises xs (others_ascend x xs up) i j (omega arith) (omega arith)

not_itself : (a : Text) → IsTrue (is_below a a) → ⊥
not_itself a below = below_one_way a a below below

-- each text stands there once
pub once : (texts : List Text) → Ascend texts → (i j : ℕ) → i < length texts → j < length texts → nth_text texts i ≡ nth_text texts j → i ≡ j
once texts up i j below below' same =
    elim (cases_order i j) [
      | inl is ↦ is
      | inr other ↦ elim other [
        | inl less ↦ absurd (not_itself (nth_text texts i) (subst (λ v. IsTrue (is_below (nth_text texts i) v)) (sym same) (rises texts up i j less below')))
        | inr more ↦ absurd (not_itself (nth_text texts j) (subst (λ v. IsTrue (is_below (nth_text texts j) v)) same (rises texts up j i more below)))
      ]
    ]

-- where a lower place has a lower text, a lower text has a lower place
pub lower_place : (texts : List Text) (i j : ℕ) → (j < i → IsTrue (is_below (nth_text texts j) (nth_text texts i))) → IsTrue (is_below (nth_text texts i) (nth_text texts j)) → i < j
lower_place texts i j ordered lower = grind (arith, common_steps, cases_order, not_itself, below_one_way)

-- ---- texts that ascend
abbrev pub Below : Text → Text → Type 0
Below a b = IsTrue (is_below a b)

pub below_then : (a b c : Text) → Below a b → Below b c → Below a c
below_then v0 v1 v2 v3 v4 = search (rules, nat_list_cmp_total, less_from)

-- what is below the first is below all
pub lower : (a b : Text) (us : List Text) → Ascend (b ∷ us) → Below a b → (z : Text) → Among (b ∷ us) z → Below a z
lower v0 v1 v2 v3 v4 v5 v6 = search (rules, below_then, first_below)

abbrev pub texts : List (Bor Text) → List Text
texts ts = map (λ t. t.now) ts

-- each text is above the one before it
pub ascend_by_adjacent : (ts : List (Bor Text)) (r : Bool)
    → IsAllAdjacentAnswer (λ x y b. b ≡ is_below x.now y.now) ts r → r ≡ true → Ascend (texts ts)
ascend_by_adjacent ts false all on = absurd (false≢true on)
ascend_by_adjacent ts true all on =
    sorted_from_all_adjacent nat_list_cmp_total (texts ts) [] (λ k below. step k (omega (arith, long, below)))
  where
    long : length (texts ts) ≡ length ts
    long = length-map ts (λ (t : Bor Text). t.now)

    d : Bor Text
    d = record { ref_ptr = (0, 0); now = [] }

    at : (k : ℕ) → k < length ts → (get_or ts k d).now ≡ get_or (texts ts) k []
    at k inside = sym (get_or-map (λ (t : Bor Text). t.now) ts k d [] inside)

    step : (k : ℕ) → k + 1 < length ts
        → slice_cmp nat_cmp (get_or (texts ts) k []) (get_or (texts ts) (k + 1) []) ≡ Less
    step k inside = less_from (slice_cmp nat_cmp (get_or (texts ts) k []) (get_or (texts ts) (k + 1) []))
        (subst (λ x. Below x (get_or (texts ts) (k + 1) [])) (at k (omega (arith, inside)))
        (subst (Below (get_or ts k d).now) (at (k + 1) inside) (sym (all k d inside))))

-- ---- a text among others, by equality and by its place
-- a test of each element, and of what it is mapped to
pub any_mapped : {X Y : Type 0} (test : Y → Bool) (f : X → Y) (xs : List X)
    → list_any (λ x. test (f x)) xs ≡ list_any test (map f xs)
any_mapped test f [] = refl
any_mapped test f (x ∷ xs) = ap (λ b. test (f x) || b) (any_mapped test f xs)

same_test : (a b : Bool) → (a ≡ true → b ≡ true) → (b ≡ true → a ≡ true) → a ≡ b
same_test v0 v1 v2 v3 = search rules

-- lists of the same texts
pub same_among : (ts us : List Text) → ((x : Text) → Among us x → Among ts x) → ((x : Text) → Among ts x → Among us x) → (k : Text) → list_any (bytes_eq k) us ≡ list_any (bytes_eq k) ts
same_among ts us there back k = same_test _ _ (λ h. among-true ts k (there k (is_among-true us k h))) (λ h. among-true us k (back k (is_among-true ts k h)))

-- what a search by place tells
pub placed : (ts : List (Bor Text)) (k : Text) (o : Option ℕ) → IfSome o (λ i. (i < length ts) × (nth_text (map (λ t. t.now) ts) i ≡ k)) → (o ≡ None → ¬ Among (map (λ t. t.now) ts) k)
    → is_some o ≡ list_any (bytes_eq k) (map (λ t. t.now) ts)
placed v0 v1 v2 v3 v4 = search (rules, same_test, is_among-true, length-map, among-true, among_at)

-- ---- texts sorted, each once, and the place that a search finds
abbrev cmp : Bor Text → Bor Text → Ordering
cmp a b = slice_cmp nat_cmp a.now b.now

abbrev eq : Bor Text → Bor Text → Bool
eq a b = bytes_eq a.now b.now

-- a text is among those of ts where some element of ts has it
among_contained : (ts : List (Bor Text)) (x : Text) → Among (texts ts) x ↔ ((t : Bor Text) × Contains ts t × (t.now ≡ x))
among_contained ts x = (into ts, λ h. out ts h.0 h.1.0 h.1.1 h.1.2 h.2)
  where
    into : (ts : List (Bor Text)) → Among (texts ts) x → (t : Bor Text) × Contains ts t × (t.now ≡ x)
    into [] there = absurd there
    into (t ∷ ts) (inl is) = (t, (0, omega arith, refl), sym is)
    into (t ∷ ts) (inr there) = let h = into ts there in (h.0, (suc h.1.0, (let below = h.1.1 in omega arith), h.1.2), h.2)

    out : (ts : List (Bor Text)) (t : Bor Text) (k : ℕ) → k < length ts → get_or ts k t ≡ t → t.now ≡ x → Among (texts ts) x
    out [] t k below at is = absurd (omega arith)
    out (u ∷ ts) t zero below at is = inl (sym is ∙ ap (λ b. b.now) (sym at))
    out (u ∷ ts) t (suc k) below at is = inr (out ts t k (omega arith) at is)

-- `old` sorted, then without doubles
module _ (old sorted new : List (Bor Text)) (moved : IsPermutation old sorted) (filtered : IsFiltered (DiffersFromLast eq) [] sorted new) where
  new_is : new ≡ dedup eq sorted
  new_is = dedup_is eq sorted new filtered

  pub same_texts : (x : Text) → Among (texts new) x ↔ Among (texts old) x
  same_texts x = (
    λ there.
        let h = (among_contained new x).0 there in
        let kept = Contains-from_dedup eq sorted h.0 (subst (λ ts. Contains ts h.0) new_is h.1) in
        (among_contained old x).1 (h.0, Contains-permutation sorted old h.0 (IsPermutation-sym old sorted moved) kept, h.2),
    λ there.
        let h = (among_contained old x).0 there in
        let k = Any-dedup (on_equiv (λ (t : Bor Text). t.now) nat_list_eq_equiv) sorted h.0 (Contains-permutation old sorted h.0 moved h.1) in
        let same : h.0.now ≡ k.1.now = (bytes_eq-Decides h.0.now k.1.now).0 k.4 in
        (among_contained new x).1 (k.1, subst (λ ts. Contains ts k.1) (sym new_is) (k.0, k.2, k.3), sym same ∙ h.2),
  )

  pub new_ascends : IsSorted cmp sorted → Ascend (texts new)
  new_ascends up = subst (λ ts. Ascend (texts ts)) (sym new_is) (texts_ascend (λ (t : Bor Text). t.now) (dedup eq sorted) (IsStrictlySortedBy-dedup (on_total (λ (t : Bor Text). t.now) nat_list_cmp_total) (λ a b. sym (is_eq-slice_cmp a.now b.now)) sorted up))

module _ (ts : List (Bor Text)) (x : Text) where
  text_now : (k : ℕ) (d : Bor Text) → k < length ts → nth_text (texts ts) k ≡ (get_or ts k d).now
  text_now k d below = get_or-map (λ t. t.now) ts k d [] below

  pub found_there : (r : Result ℕ ℕ) → IsSearchInRange r (length ts) → IsBinarySearchResult (λ t. slice_cmp nat_cmp t.now x) ts r
      → IfSome (result_ok r) (λ i. (i < length ts) × (nth_text (texts ts) i ≡ x))
  found_there (Ok i) below equal = let d : Bor Text = record { ref_ptr = (0, 0); now = [] } in (below, text_now i d below ∙ exact_bytes _ _ (equal d))
  found_there (Err i) below parted = tt

  sorted_now : Ascend (texts ts) → IsSorted cmp ts
  sorted_now up k d low high = grind (arith, common_steps, length-map, false_from_ne_true, below_one_way, text_now, rises)

  pub missing_there : (r : Result ℕ ℕ) → IsBinarySearchResult (λ t. slice_cmp nat_cmp t.now x) ts r → Ascend (texts ts) → result_ok r ≡ None → ¬ Among (texts ts) x
  missing_there (Ok i) equal up none there = cc
  missing_there (Err i) parted up none there =
      let d : Bor Text = record { ref_ptr = (0, 0); now = [] } in
      let k = at_among (texts ts) x [] there in
      let inside : k.0 < length ts = (let long = length-map ts (λ (t : Bor Text). t.now) in omega arith) in
      let tie : slice_cmp nat_cmp (get_or ts k.0 d).now x ≡ Equal = subst (λ v. slice_cmp nat_cmp v x ≡ Equal) (sym k.2 ∙ text_now k.0 d inside) (tied_itself nat_list_cmp_total x) in
      let parts = parted (searchable_from_sorted nat_list_cmp_total (λ (t : Bor Text). t.now) ts x (sorted_now up)) in
      elim (cases_lt k.0 i) [
        | inl before ↦ let less = parts.0 k.0 d (omega arith) before in cc
        | inr after ↦ let more = parts.1 k.0 d after inside in cc
      ]

pub taken_more : {X Y : Type 0} (f : X → Y) (xs : List X) (i : ℕ) (x d : X) → i < length xs → x ≡ get_or xs i d → map f (take (i + 1) xs) ≡ map f (take i xs) ++ f x ∷ []
taken_more f xs i x d inside is = ap (map f) (take_more xs i d inside ∙ ap (λ y. take i xs ++ y ∷ []) (sym is)) ∙ map_push f (take i xs) x
