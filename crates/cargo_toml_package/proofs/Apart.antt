-- The features of a table, taken apart: their names stay in order, and each half is what it should be.
use Rattle.cargo_toml_package.proofs.Cited.{AllByRecursion, Bool, Detail, FeatureDetail, IsStrictlySortedBy, Less, List, String, WrittenFeature, [], ap, cond, detail_of, details_of, false, feature_meaning, is_plain, keys_of, lists_of, not, pairs_meaning, refl, slice_cmp, string_bytes, string_cmp, subst, sym, true, ℕ, ◌∷◌, ◌≡◌}
use Rattle.std.proofs.Common.{Global}
use Rattle.std.proofs.Common.{nat_cmp}

-- names that ascend
abbrev pub Ascend : List (List ℕ) → Type 0
Ascend names = IsStrictlySortedBy (slice_cmp nat_cmp) names

abbrev AreAbove : List ℕ → List (List ℕ) → Type 0
AreAbove name names = AllByRecursion (λ n. slice_cmp nat_cmp name n ≡ Less) names

-- the keys of pairs ascend where the bytes of them do
module _ {X M : Type 0} (meaning : X → M) where
  above-bytes : (key : String Global) (ps : List (String Global × X)) → AllByRecursion (λ k. string_cmp key k ≡ Less) (keys_of ps)
      → AreAbove (string_bytes key) (keys_of (pairs_meaning meaning ps))
  above-bytes key [] h = tt
  above-bytes key (p ∷ ps) h = (h.0, above-bytes key ps h.1)

  pub ascend-bytes : (ps : List (String Global × X)) → IsStrictlySortedBy string_cmp (keys_of ps) → Ascend (keys_of (pairs_meaning meaning ps))
  unfolding IsStrictlySortedBy
  ascend-bytes [] h = tt
  ascend-bytes (p ∷ ps) h = (above-bytes p.0 ps h.0, ascend-bytes ps h.1)

  above-keys : (key : String Global) (ps : List (String Global × X)) → AreAbove (string_bytes key) (keys_of (pairs_meaning meaning ps))
      → AllByRecursion (λ k. string_cmp key k ≡ Less) (keys_of ps)
  above-keys key [] h = tt
  above-keys key (p ∷ ps) h = (h.0, above-keys key ps h.1)

  pub ascend-keys : (ps : List (String Global × X)) → Ascend (keys_of (pairs_meaning meaning ps)) → IsStrictlySortedBy string_cmp (keys_of ps)
  unfolding IsStrictlySortedBy
  ascend-keys [] h = tt
  ascend-keys (p ∷ ps) h = (above-keys p.0 ps h.0, ascend-keys ps h.1)

abbrev pub Written : Type 0
Written = List (List ℕ × (List (List ℕ) × Detail))

-- the names of the lists are those of the features
same_names : (fs : Written) → keys_of fs ≡ keys_of (lists_of fs)
same_names [] = refl
same_names (f ∷ fs) = ap (λ names. f.0 ∷ names) (same_names fs)

-- the names of the details are some of them
above-detail : (b : Bool) (name : List ℕ) (f : List ℕ × (List (List ℕ) × Detail)) (fs : Written) → slice_cmp nat_cmp name f.0 ≡ Less → AreAbove name (keys_of (details_of fs))
    → AreAbove name (keys_of (cond b ((f.0, f.1.1) ∷ details_of fs) (details_of fs)))
above-detail true name f fs here rest = (here, rest)
above-detail false name f fs here rest = rest

above-details : (name : List ℕ) (fs : Written) → AreAbove name (keys_of fs) → AreAbove name (keys_of (details_of fs))
above-details name [] h = tt
above-details name (f ∷ fs) h = above-detail (not (is_plain f.1.1)) name f fs h.0 (above-details name fs h.1)

ascend-detail : (b : Bool) (f : List ℕ × (List (List ℕ) × Detail)) (fs : Written) → AreAbove f.0 (keys_of fs) → Ascend (keys_of (details_of fs))
    → Ascend (keys_of (cond b ((f.0, f.1.1) ∷ details_of fs) (details_of fs)))
unfolding IsStrictlySortedBy
ascend-detail true f fs above rest = (above-details f.0 fs above, rest)
ascend-detail false f fs above rest = rest

ascend-details : (fs : Written) → Ascend (keys_of fs) → Ascend (keys_of (details_of fs))
unfolding IsStrictlySortedBy
ascend-details [] h = tt
ascend-details (f ∷ fs) h = ascend-detail (not (is_plain f.1.1)) f fs h.0 (ascend-details fs h.1)

-- so both halves are made in one go
pub lists_ascend : {X : Type 0} (meaning : X → List (List ℕ)) (ws : List (String Global × WrittenFeature)) (ps : List (String Global × X))
    → pairs_meaning meaning ps ≡ lists_of (pairs_meaning feature_meaning ws) → IsStrictlySortedBy string_cmp (keys_of ws) → IsStrictlySortedBy string_cmp (keys_of ps)
lists_ascend meaning ws ps is h =
    let all : Written = pairs_meaning feature_meaning ws in
    let names : Ascend (keys_of (lists_of all)) = subst Ascend (same_names all) (ascend-bytes feature_meaning ws h) in
    ascend-keys meaning ps (subst (λ (es : List (List ℕ × List (List ℕ))). Ascend (keys_of es)) (sym is) names)

pub details_ascend : (ws : List (String Global × WrittenFeature)) (ps : List (String Global × FeatureDetail))
    → pairs_meaning detail_of ps ≡ details_of (pairs_meaning feature_meaning ws) → IsStrictlySortedBy string_cmp (keys_of ws) → IsStrictlySortedBy string_cmp (keys_of ps)
details_ascend ws ps is h =
    let names = ascend-details (pairs_meaning feature_meaning ws) (ascend-bytes feature_meaning ws h) in
    ascend-keys detail_of ps (subst (λ (es : List (List ℕ × Detail)). Ascend (keys_of es)) (sym is) names)

-- what the halves hold of the features so far
abbrev pub AreHalves : {X : Type 0} → (X → List (List ℕ)) → List (String Global × WrittenFeature) → List (String Global × X) → List (String Global × FeatureDetail) → Type 0
AreHalves meaning ws ls ds =
    (pairs_meaning meaning ls ≡ lists_of (pairs_meaning feature_meaning ws)) × (pairs_meaning detail_of ds ≡ details_of (pairs_meaning feature_meaning ws))
