-- Texts in byte order, taken apart and put together.
use Rattle.std.proofs.Common.{◌≡◌, IsTrue, List, [], ◌∷◌, map, refl, sym, ap, subst, inl, inr, rules}
use Rattle.std.proofs.lemmas.{Bool.false≢true, Map.Keys.sorted_head, Map.Keys.sorted_tail}
use Rattle.std.specs.{Cmp.Lexicographic.slice_cmp, List.AllByRecursion, List.Sorted.IsStrictlySortedBy, Ordering.nat_cmp, Ordering.is_lt, declared.cmp.Ordering.Ordering}
use Rattle.std.specs.declared.cmp.Ordering.TheVariants.{Less}
use Rattle.cargo_toml_graph.specs.{Ascending.Ascend, Action.Text, Admitted.is_below, Reach.Among}

pub less_from : (o : Ordering) → IsTrue (is_lt o) → o ≡ Less
less_from v0 v1 = search (rules, false≢true)

-- what holds of each element holds of those among them
pub all_among : {K : Type 0} (P : K → Type 0) (xs : List K) → AllByRecursion P xs → (x : K) → Among xs x → P x
all_among P [] all x there = absurd there
all_among P (z ∷ xs) all x (inl is) = subst P (sym is) all.0
all_among P (z ∷ xs) all x (inr there) = all_among P xs all.1 x there

-- the first is below each after it
pub first_below : (x : Text) (xs : List Text) → Ascend (x ∷ xs) → (y : Text) → Among xs y → IsTrue (is_below x y)
first_below x xs up y there = ap is_lt (all_among (λ y. slice_cmp nat_cmp x y ≡ Less) xs (sorted_head (slice_cmp nat_cmp) x xs up) y there)

-- those after the first ascend
pub others_ascend : (x : Text) (xs : List Text) → Ascend (x ∷ xs) → Ascend xs
others_ascend x xs up = sorted_tail (slice_cmp nat_cmp) x xs up

pub none_ascend : Ascend []
unfolding IsStrictlySortedBy
none_ascend = tt

-- a text below all others goes to the front
pub put_first : (x : Text) (xs : List Text) → ((y : Text) → Among xs y → IsTrue (is_below x y)) → Ascend xs → Ascend (x ∷ xs)
unfolding IsStrictlySortedBy
put_first x xs below up = (go xs below, up)
  where
    go : (ys : List Text) → ((y : Text) → Among ys y → IsTrue (is_below x y)) → AllByRecursion (λ y. slice_cmp nat_cmp x y ≡ Less) ys
    go [] below = tt
    go (y ∷ ys) below = (less_from (slice_cmp nat_cmp x y) (below y (inl refl)), go ys (λ z there. below z (inr there)))

pub one_ascends : (x : Text) → Ascend (x ∷ [])
one_ascends x = put_first x [] (λ y there. absurd there) none_ascend

-- what ascends by its texts gives texts that ascend
pub texts_ascend : {K : Type 0} (text : K → Text) (ks : List K) → IsStrictlySortedBy (λ (x y : K). slice_cmp nat_cmp (text x) (text y)) ks → Ascend (map text ks)
unfolding IsStrictlySortedBy
texts_ascend text [] up = tt
texts_ascend {K} text (k ∷ ks) up = (go ks up.0, texts_ascend text ks up.1)
  where
    go : (xs : List K) → AllByRecursion (λ x. slice_cmp nat_cmp (text k) (text x) ≡ Less) xs → AllByRecursion (λ t. slice_cmp nat_cmp (text k) t ≡ Less) (map text xs)
    go [] all = tt
    go (x ∷ xs) all = (all.0, go xs all.1)
