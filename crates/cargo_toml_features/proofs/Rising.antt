-- Texts that ascend, taken apart and put together, and where a search of them leads.
use Rattle.cargo_toml_features.proofs.Cited.{IsOnce, Some, bytes_eq, bytes_eq-Decides, bytes_eq_refl, cond, false_from_ne_true, find, suc, zero, Among, Ascend, IsPartitionPoint, IsPartitionedBy, List, Text, [], among-either, among-first, among-second, ap, arith, below_one_way, cases_order, common_steps, exact_bytes, false, false≢true, first_below, get_or, get_or-map, inl, inr, is_below, length, length-map, map, nat_list_cmp_total, none_ascend, nth_text, others_ascend, put_first, refl, subst, sym, true, ℕ, ◌++◌, ◌<◌, ◌∙◌, ◌∷◌, ◌≡◌, ◌≤◌}
use Rattle.cargo_toml_features.proofs.ByPlace.{among_at, at_among, Below, below_then, lower, rises}

pub later_ascend : (xs ys : List Text) → Ascend (xs ++ ys) → Ascend ys
later_ascend [] ys up = up
later_ascend (x ∷ xs) ys up = later_ascend xs ys (others_ascend x (xs ++ ys) up)

pub earlier_ascend : (xs ys : List Text) → Ascend (xs ++ ys) → Ascend xs
earlier_ascend [] ys up = none_ascend
earlier_ascend (x ∷ xs) ys up =
    put_first x xs (λ y there. first_below x (xs ++ ys) up y (among-first xs ys y there)) (earlier_ascend xs ys (others_ascend x (xs ++ ys) up))

-- two lists that share y
pub joined_ascend : (xs : List Text) (y : Text) (us : List Text) → Ascend (xs ++ y ∷ []) → Ascend (y ∷ us) → Ascend (xs ++ y ∷ us)
joined_ascend [] y us up vp = vp
joined_ascend (x ∷ xs) y us up vp = put_first x (xs ++ y ∷ us)
    (λ z there. elim (among-either xs (y ∷ us) z there) [
      | inl within ↦ first_below x (xs ++ y ∷ []) up z (among-first xs (y ∷ []) z within)
      | inr after ↦ lower x y us vp (first_below x (xs ++ y ∷ []) up y (among-second xs (y ∷ []) y (inl refl))) z after
    ])
    (joined_ascend xs y us (others_ascend x (xs ++ y ∷ []) up) vp)

pub itself : (a : Text) → Below a a → ⊥
itself a below = below_one_way a a below below

-- a text behind others isn't one of them
pub behind : (xs : List Text) (y : Text) (us : List Text) → Ascend (xs ++ y ∷ us) → ¬ Among xs y
behind [] y us up there = there
behind (x ∷ xs) y us up (inl is) = itself y (subst (λ v. Below v y) (sym is) (first_below x (xs ++ y ∷ us) up y (among-second xs (y ∷ us) y (inl refl))))
behind (x ∷ xs) y us up (inr there) = behind xs y us (others_ascend x (xs ++ y ∷ us) up) there

-- a text that is neither below nor the same is above
pub strictly_above : (a f : Text) → is_below a f ≡ false → (a ≡ f → ⊥) → Below f a
strictly_above a f off apart = grind (arith, common_steps, false≢true, exact_bytes, nat_list_cmp_total)

-- two texts that ascend
pub two_ascend : (a b : Text) → Below a b → Ascend (a ∷ b ∷ [])
two_ascend a b below = put_first a (b ∷ []) (λ y there. elim there [ inl is ↦ subst (Below a) (sym is) below | inr none ↦ absurd none ]) (put_first b [] (λ y there. absurd there) none_ascend)

-- a text behind all others
pub last_ascends : (xs : List Text) (f : Text) → Ascend xs → ((y : Text) → Among xs y → Below y f) → Ascend (xs ++ f ∷ [])
last_ascends [] f up below = put_first f [] (λ y there. absurd there) none_ascend
last_ascends (x ∷ xs) f up below = put_first x (xs ++ f ∷ [])
    (λ y there. elim (among-either xs (f ∷ []) y there) [
      | inl within ↦ first_below x xs up y within
      | inr last ↦ elim last [ inl is ↦ subst (Below x) (sym is) (below x (inl refl)) | inr none ↦ absurd none ]
    ])
    (last_ascends xs f (others_ascend x xs up) (λ y there. below y (inr there)))

-- so each is there once
pub ascend_once : (xs : List Text) → Ascend xs → IsOnce xs
ascend_once [] up = tt
ascend_once (x ∷ xs) up = (λ there. itself x (first_below x xs up x there), ascend_once xs (others_ascend x xs up))

-- the value under the name of a place is found there
pub found_here : {V : Type 0} (text : V → Text) (vs : List V) (i : ℕ) (d : V) → Ascend (map text vs) → i < length vs
    → find (λ v. bytes_eq (text (get_or vs i d)) (text v)) vs ≡ Some (get_or vs i d)
found_here text [] i d up inside = absurd (omega (arith, inside))
found_here text (v ∷ vs) zero d up inside = ap (λ b. cond b (Some v) (find (λ w. bytes_eq (text v) (text w)) vs)) (bytes_eq_refl (text v))
found_here text (v ∷ vs) (suc i) d up inside =
    let w = get_or vs i d in
    let below : Below (text v) (text w) = first_below (text v) (map text vs) up (text w)
    (subst (Among (map text vs)) (get_or-map text vs i d (text w) (omega (arith, inside))) (among_at (map text vs) i (text w) (let long = length-map vs text in omega (arith, long, inside)))) in
    ap (λ b. cond b (Some v) (find (λ u. bytes_eq (text w) (text u)) vs))
    (false_from_ne_true _ (λ same. itself (text v) (subst (Below (text v)) ((bytes_eq-Decides (text w) (text v)).0 same) below)))
    ∙ found_here text vs i d (others_ascend (text v) (map text vs) up) (omega (arith, inside))

-- some value of a list that has a place
pub one_at : {V : Type 0} (vs : List V) (k : ℕ) → k < length vs → V
one_at [] k inside = absurd (omega (arith, inside))
one_at (v ∷ vs) k inside = v

-- ---- where a search of values by their texts leads
module _ {V : Type 0} (text : V → Text) (vs : List V) (f : Text) (up : Ascend (map text vs)) (i : ℕ) (within : i ≤ length vs)
    (point : IsPartitionedBy (λ v. is_below (text v) f) vs → IsPartitionPoint (λ v. is_below (text v) f ≡ true) (λ v. is_below (text v) f ≡ false) vs i) where
  text_at : (k : ℕ) (d : V) → k < length vs → nth_text (map text vs) k ≡ text (get_or vs k d)
  text_at k d inside = get_or-map text vs k d [] inside

  long : length (map text vs) ≡ length vs
  long = length-map vs text

  -- where the text at a place is below, so are those before it
  below_through : (k b : ℕ) → k ≤ b → b < length vs → Below (nth_text (map text vs) b) f → Below (nth_text (map text vs) k) f
  below_through k b less inside here = elim (cases_order k b) [
    | inl same ↦ subst (λ j. Below (nth_text (map text vs) j) f) (sym same) here
    | inr other ↦ elim other [
      | inl earlier ↦ below_then (nth_text (map text vs) k) (nth_text (map text vs) b) f (rises (map text vs) up k b earlier (omega (arith, inside, long))) here
      | inr more ↦ absurd (omega (arith, less, more))
    ]
  ]

  halves : IsPartitionPoint (λ v. is_below (text v) f ≡ true) (λ v. is_below (text v) f ≡ false) vs i
  halves = point (λ a b d before inside here.
      let under : a < length vs = omega (arith, before, inside) in
      sym (ap (λ n. is_below n f) (text_at a d under))
      ∙ below_through a b before inside (ap (λ n. is_below n f) (text_at b d inside) ∙ here))

  pub before : (k : ℕ) → k < i → Below (nth_text (map text vs) k) f
  before k less = let inside : k < length vs = omega (arith, less, within) in
      let d = one_at vs k inside in
      ap (λ n. is_below n f) (text_at k d inside) ∙ halves.0 k d (omega arith) less

  pub from : (k : ℕ) → i ≤ k → k < length vs → is_below (nth_text (map text vs) k) f ≡ false
  from k past inside = let d = one_at vs k inside in
      ap (λ n. is_below n f) (text_at k d inside) ∙ halves.1 k d past inside

  -- where it would stand and doesn't, it is nowhere
  pub unfound : (i < length vs → nth_text (map text vs) i ≡ f → ⊥) → ¬ Among (map text vs) f
  unfound free there =
      let k = at_among (map text vs) f [] there in
      let inside : k.0 < length vs = (let below = k.1 in omega (arith, below, long)) in
      elim (cases_order k.0 i) [
        | inl same ↦ free (subst (λ j. j < length vs) same inside) (subst (λ j. nth_text (map text vs) j ≡ f) same k.2)
        | inr other ↦ elim other [
          | inl less ↦ itself f (subst (λ x. Below x f) k.2 (before k.0 less))
          | inr more ↦ false≢true (sym (from i (omega arith) (omega (arith, more, inside)))
              ∙ subst (Below (nth_text (map text vs) i)) k.2 (rises (map text vs) up i k.0 more (omega (arith, inside, long))))
        ]
      ]
