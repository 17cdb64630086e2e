-- A stable sort has one result.
use Rattle.cargo_toml_discovery.proofs.Cited.{Bool, IsSortedBy, IsStableBy, IsStrictWeakOrder, List, ProductMeaning, [], add-one, ap, arith, cond, false, filter, get_or, insert_by, length, map, nat_list_cmp_total, not, on_total, options_total, product_lt, ranks_by, refl, sorted_by, sorted_far, suc, sym, then_total, ties, true, zero, ℕ, ◌&&◌, ◌<◌, ◌∙◌, ◌∷◌, ◌≡◌}

module _ {X : Type 0} (lt : X → X → Bool) (o : IsStrictWeakOrder lt) where
  -- x is greater than none of them
  abbrev AtMost : X → List X → Type 0
  AtMost x [] = Unit {0}
  AtMost x (y ∷ ys) = (lt y x ≡ false) × AtMost x ys

  abbrev Sorted : List X → Type 0
  Sorted [] = Unit {0}
  Sorted (x ∷ xs) = AtMost x xs × Sorted xs

  irreflexive : (x : X) (b : Bool) → lt x x ≡ b → lt x x ≡ false
  irreflexive x true e = o.one_way x x e
  irreflexive x false e = e

  ties-itself : (x : X) → ties lt x x ≡ true
  ties-itself x = let e = irreflexive x (lt x x) refl in rw e refl

  -- what stands first among those that tie with y stands in the list
  found : (y : X) (zs : List X) (rest : List X) (x : X) → AtMost x zs → filter (ties lt y) zs ≡ y ∷ rest → lt y x ≡ false
  found y [] rest x h e = cc
  found y (z ∷ zs) rest x h e = elim (ties lt y z) as (λ b. cond b (z ∷ filter (ties lt y) zs) (filter (ties lt y) zs) ≡ y ∷ rest → lt y x ≡ false)
      [ true ↦ λ d. let same : z ≡ y = cc in rw (← same) h.0 | false ↦ λ d. found y zs rest x h.1 d ] e

  both_least : (a b : Bool) → a ≡ false → b ≡ false → not a && not b ≡ true
  both_least a b e f = rw (e, f) refl

  pick : (y z : X) (zs rest : List X) (b : Bool) → b ≡ true → cond b (z ∷ filter (ties lt y) zs) (filter (ties lt y) zs) ≡ y ∷ rest → z ≡ y
  pick y z zs rest true e h = cc
  pick y z zs rest false e h = cc

  -- the first elements of two sorted lists of the same ties
  heads : (y z : X) (ys zs : List X) → AtMost y ys → AtMost z zs → ((x : X) → filter (ties lt x) (y ∷ ys) ≡ filter (ties lt x) (z ∷ zs)) → y ≡ z
  heads y z ys zs low_y low_z same =
      let at_y : filter (ties lt y) (z ∷ zs) ≡ y ∷ filter (ties lt y) ys = sym (same y) ∙ ap (λ (b : Bool). cond b (y ∷ filter (ties lt y) ys) (filter (ties lt y) ys)) (ties-itself y) in
      let at_z : filter (ties lt z) (y ∷ ys) ≡ z ∷ filter (ties lt z) zs = same z ∙ ap (λ (b : Bool). cond b (z ∷ filter (ties lt z) zs) (filter (ties lt z) zs)) (ties-itself z) in
      let not_y : lt y z ≡ false = found y (z ∷ zs) _ z (irreflexive z (lt z z) refl, low_z) at_y in
      let not_z : lt z y ≡ false = found z (y ∷ ys) _ y (irreflexive y (lt y y) refl, low_y) at_z in
      sym (pick y z zs (filter (ties lt y) ys) (ties lt y z) (both_least _ _ not_y not_z) at_y)

  peel : (b : Bool) (y : X) (us vs : List X) → cond b (y ∷ us) us ≡ cond b (y ∷ vs) vs → us ≡ vs
  peel true y us vs e = cc
  peel false y us vs e = e

  nothing : (y : X) (ys : List X) → ((x : X) → filter (ties lt x) (y ∷ ys) ≡ []) → {A : Type 0} → A
  nothing y ys h = let e : y ∷ filter (ties lt y) ys ≡ [] = sym (ap (λ (b : Bool). cond b (y ∷ filter (ties lt y) ys) (filter (ties lt y) ys)) (ties-itself y)) ∙ h y in cc

  pub one_sort : (ys zs : List X) → Sorted ys → Sorted zs → ((x : X) → filter (ties lt x) ys ≡ filter (ties lt x) zs) → ys ≡ zs
  one_sort [] [] s t same = refl
  one_sort [] (z ∷ zs) s t same = nothing z zs (λ x. sym (same x))
  one_sort (y ∷ ys) [] s t same = nothing y ys same
  one_sort (y ∷ ys) (z ∷ zs) s t same =
      let e : y ≡ z = heads y z ys zs s.0 t.0 same in
      let rest : (x : X) → filter (ties lt x) ys ≡ filter (ties lt x) zs = λ x. peel (ties lt x y) y _ _ (same x ∙ ap (λ (v : X). cond (ties lt x v) (v ∷ filter (ties lt x) zs) (filter (ties lt x) zs)) (sym e)) in
      ap (λ (v : X). v ∷ ys) e ∙ ap (λ (vs : List X). z ∷ vs) (one_sort ys zs s.1 t.1 rest)

  -- an insertion keeps the order, and what ties
  at_most-insert : (x y : X) (ys : List X) → lt y x ≡ false → AtMost x ys → AtMost x (insert_by lt y ys)
  at_most-insert x y [] e h = (e, tt)
  at_most-insert x y (z ∷ ys) e h = elim (lt z y) as (λ b. AtMost x (cond b (z ∷ insert_by lt y ys) (y ∷ z ∷ ys)))
      [ true ↦ (h.0, at_most-insert x y ys e h.1) | false ↦ (e, h) ]

  at_most-chain : (x y : X) (ys : List X) → lt y x ≡ false → AtMost y ys → AtMost x ys
  at_most-chain x y [] e h = tt
  at_most-chain x y (z ∷ ys) e h = (o.chain z y x h.0 e, at_most-chain x y ys e h.1)

  sorted-insert : (x : X) (ys : List X) → Sorted ys → Sorted (insert_by lt x ys)
  sorted-insert x [] s = (tt, tt)
  sorted-insert x (y ∷ ys) s = elim (lt y x) as (λ b. lt y x ≡ b → Sorted (cond b (y ∷ insert_by lt x ys) (x ∷ y ∷ ys)))
      [ true ↦ λ e. (at_most-insert y x ys (o.one_way y x e) s.0, sorted-insert x ys s.1) | false ↦ λ e. ((e, at_most-chain x y ys e s.0), s) ] refl

  pub sorted-sorted_by : (xs : List X) → Sorted (sorted_by lt xs)
  sorted-sorted_by [] = tt
  sorted-sorted_by (x ∷ xs) = sorted-insert x (sorted_by lt xs) (sorted-sorted_by xs)

  tie_parts : (a b : Bool) → not a && not b ≡ true → (a ≡ false) × (b ≡ false)
  tie_parts true b e = cc
  tie_parts false true e = cc
  tie_parts false false e = (refl, refl)

  not_both : (v x y : X) → lt y x ≡ true → ties lt v y ≡ true → ties lt v x ≡ true → {A : Type 0} → A
  not_both v x y e h k =
      let p = tie_parts (lt v y) (lt y v) h in
      let q = tie_parts (lt v x) (lt x v) k in
      let f = o.chain y v x p.1 q.0 in cc

  swapped : (v x y : X) (us : List X) (a b : Bool) → ties lt v y ≡ a → ties lt v x ≡ b → lt y x ≡ true → cond a (y ∷ cond b (x ∷ us) us) (cond b (x ∷ us) us) ≡ cond b (x ∷ cond a (y ∷ us) us) (cond a (y ∷ us) us)
  swapped v x y us true true h k e = not_both v x y e h k
  swapped v x y us true false h k e = refl
  swapped v x y us false b h k e = refl

  filter-insert : (v x : X) (ys : List X) → filter (ties lt v) (insert_by lt x ys) ≡ filter (ties lt v) (x ∷ ys)
  filter-insert v x [] = refl
  filter-insert v x (y ∷ ys) = elim (lt y x) as (λ b. lt y x ≡ b → filter (ties lt v) (cond b (y ∷ insert_by lt x ys) (x ∷ y ∷ ys)) ≡ filter (ties lt v) (x ∷ y ∷ ys)) [
    | true ↦ λ e. ap (λ (us : List X). cond (ties lt v y) (y ∷ us) us) (filter-insert v x ys) ∙ swapped v x y (filter (ties lt v) ys) (ties lt v y) (ties lt v x) refl refl e
    | false ↦ λ e. refl
  ] refl

  pub filter-sorted_by : (v : X) (xs : List X) → filter (ties lt v) (sorted_by lt xs) ≡ filter (ties lt v) xs
  filter-sorted_by v [] = refl
  filter-sorted_by v (x ∷ xs) = filter-insert v x (sorted_by lt xs) ∙ ap (λ (us : List X). cond (ties lt v x) (x ∷ us) us) (filter-sorted_by v xs)

  at_most-from_each : (x : X) (zs : List X) → ((j : ℕ) (d : X) → j < length zs → lt (get_or zs j d) x ≡ false) → AtMost x zs
  at_most-from_each x [] h = tt
  at_most-from_each x (z ∷ zs) h = (h 0 z (omega arith), at_most-from_each x zs (λ j d k. h (suc j) d (omega arith)))

  sorted-from_std : (xs : List X) → IsSortedBy lt xs → Sorted xs
  sorted-from_std [] h = tt
  sorted-from_std (x ∷ xs) h = (
    at_most-from_each x xs (λ j d k. sorted_far lt o (x ∷ xs) h 0 (suc j) d (omega arith) (omega arith)),
    sorted-from_std xs (λ k d low high. let e = rw add-one at (h (suc k) d (omega arith) (omega arith)) in rw add-one e),
  )

  at : (x : X) (zs : List X) → AtMost x zs → (j : ℕ) (d : X) → j < length zs → lt (get_or zs j d) x ≡ false
  at x [] h j d below = absurd (omega arith)
  at x (z ∷ zs) h zero d below = h.0
  at x (z ∷ zs) h (suc j) d below = at x zs h.1 j d (omega arith)

  neighbours : (xs : List X) → Sorted xs → (k : ℕ) (d : X) → suc k < length xs → lt (get_or xs (suc k) d) (get_or xs k d) ≡ false
  neighbours [] s k d below = absurd (omega arith)
  neighbours (x ∷ xs) s zero d below = at x xs s.0 zero d (omega arith)
  neighbours (x ∷ xs) s (suc k) d below = neighbours xs s.1 k d (omega arith)

  -- in the words of std
  pub sorted-in_std : (xs : List X) → Sorted xs → IsSortedBy lt xs
  sorted-in_std xs s = λ k d low high. rw add-one (neighbours xs s k d (omega arith))

  -- a stable sort gives what insertion gives
  pub sort_gives : (xs ys : List X) → IsSortedBy lt ys → IsStableBy lt xs ys → ys ≡ sorted_by lt xs
  sort_gives xs ys up stable = one_sort ys (sorted_by lt xs) (sorted-from_std ys up) (sorted-sorted_by xs) (λ v. stable v ∙ sym (filter-sorted_by v xs))

-- a sort by what is seen of the elements
map-insert : {X Y : Type 0} (m : X → Y) (lt : Y → Y → Bool) (x : X) (ys : List X) → map m (insert_by (λ a b. lt (m a) (m b)) x ys) ≡ insert_by lt (m x) (map m ys)
map-insert m lt x [] = refl
map-insert {X} {Y} m lt x (y ∷ ys) = elim (lt (m y) (m x)) as (λ b. map m (cond b (y ∷ insert_by (λ a b. lt (m a) (m b)) x ys) (x ∷ y ∷ ys)) ≡ cond b (m y ∷ insert_by lt (m x) (map m ys)) (m x ∷ m y ∷ map m ys))
    [ true ↦ ap (λ (us : List Y). m y ∷ us) (map-insert m lt x ys) | false ↦ refl ]

pub map-sorted_by : {X Y : Type 0} (m : X → Y) (lt : Y → Y → Bool) (xs : List X) → map m (sorted_by (λ a b. lt (m a) (m b)) xs) ≡ sorted_by lt (map m xs)
map-sorted_by m lt [] = refl
map-sorted_by m lt (x ∷ xs) = map-insert m lt x (sorted_by (λ a b. lt (m a) (m b)) xs) ∙ ap (λ us. insert_by lt (m x) us) (map-sorted_by m lt xs)

-- products are ordered
pub products_rank : {X : Type 0} (see : X → ProductMeaning) → IsStrictWeakOrder (λ a b. product_lt (see a) (see b))
products_rank see =
    ranks_by (then_total (on_total (λ (p : ProductMeaning). p.name) (options_total nat_list_cmp_total)) (on_total (λ (p : ProductMeaning). p.path) (options_total nat_list_cmp_total))) see
