-- Hashed maps get one value after another.
use Rattle.cargo_toml_resolve.proofs.Cited.{Among, AreInOrder, Ascend, Bool, Bor, Feature, HasThose, HashMap, List, None, Option, Some, Text, [], ap, arith, below_one_way, bytes_eq, bytes_eq-Decides, cases_Bool, cases_eq, cond, drop, drop-cons, false, false_from_ne_true, feature_at, first_below, get_or, held_among}
use Rattle.cargo_toml_resolve.proofs.Cited.{if◌then◌else◌, inl, inr, is_some, length, length-drop, names_of, option_or, others_ascend, refl, slice_get, slice_get_read, subst, suc, sym, texts_now, true, value_at, zero, ℕ, ◌+◌, ◌<◌, ◌∙◌, ◌∷◌, ◌≡◌, ◌≤◌}
use Rattle.cargo_toml_resolve.proofs.InPlace.{one_place}

-- the map has what is said of the features in the places below n of which Here holds
module _ {V S : Type 0} (vs : List Feature) (Here : ℕ → Type 0) (Is : ℕ → Feature → V → Type 0) (n : ℕ) (m : HashMap (Bor Text) V S) where
  pub none_put : ((f : Text) → value_at m f ≡ None) → HasThose vs Here Is 0 m
  none_put empty = record { there = λ i v lt. absurd (omega (arith, lt)); only = λ f y. grind (arith, empty f) }

  pub not_put : ¬ Here n → HasThose vs Here Is n m → HasThose vs Here Is (n + 1) m
  not_put absent h = record {
    there = λ i v lt at here. elim (cases_eq i n) [ inl e ↦ absurd (absent (subst Here e here)) | inr ne ↦ h.there i v (omega (arith, lt, ne)) at here ];
    only = h.only;
  }

  pub one_put : AreInOrder vs → (w : Feature) (x : V) (m' : HashMap (Bor Text) V S) → slice_get vs n ≡ Some w → Here n → Is n w x →
      ((k : Text) → value_at m' k ≡ cond (bytes_eq k w.key.now) (Some x) (value_at m k)) → HasThose vs Here Is n m → HasThose vs Here Is (n + 1) m'
  one_put up w x m' here on is put h = record {
    there = λ i v lt at that. elim (cases_eq i n) [
      | inl e ↦ grind (arith, bytes_eq-Decides)
      | inr ne ↦ grind (arith, bytes_eq-Decides, false_from_ne_true, one_place vs up i n v w at here)
    ];
    only = λ f y. elim (cases_Bool (bytes_eq f w.key.now)) [
      | inl same ↦ (n, w, here, on, sym ((bytes_eq-Decides f w.key.now).0 same))
      | inr apart ↦ h.only f (sym (ap is_some (put f ∙ ap (λ b. cond b (Some x) (value_at m f)) apart)) ∙ y)
    ];
  }

-- once none comes any more
pub all_those : {V S : Type 0} (vs : List Feature) (Here : ℕ → Type 0) (Is : ℕ → Feature → V → Type 0) (n : ℕ) (m : HashMap (Bor Text) V S) → drop n vs ≡ [] → HasThose vs Here Is n m → HasThose vs Here Is (length vs) m
all_those vs Here Is n m done h =
    let all : length vs ≤ n = omega (arith, length-drop n vs, ap length done) in
    record { there = λ i v lt. h.there i v (omega (arith, lt, all)); only = h.only }

-- what does not stand among features isn't found
none_found : (vs : List Feature) (f : Text) → ¬ Among (names_of vs) f → feature_at vs f ≡ None
none_found [] f apart = refl
none_found (v ∷ vs) f apart = grind (arith, none_found vs f (λ i. apart (inr i)), bytes_eq-Decides f v.key.now)

-- the first of them goes into the map
pub feature_turn : (v : Feature) (vs : List Feature) (f : Text) (o : Option Feature) → AreInOrder (v ∷ vs) →
    option_or (feature_at (v ∷ vs) f) o ≡ option_or (feature_at vs f) (if bytes_eq f v.key.now then Some v else o)
feature_turn v vs f o up = go (bytes_eq f v.key.now) refl
  where
    go : (b : Bool) → bytes_eq f v.key.now ≡ b → option_or (cond b (Some v) (feature_at vs f)) o ≡ option_or (feature_at vs f) (cond b (Some v) o)
    go true same = sym (ap (λ x. option_or x (Some v)) (none_found vs f (λ i.
        let b = first_below v.key.now (names_of vs) up v.key.now (subst (Among (names_of vs)) ((bytes_eq-Decides f v.key.now).0 same) i) in
        below_one_way v.key.now v.key.now b b)))
    go false apart = refl

-- what does not stand among names has no value there
none_held : {V : Type 0} (ns : List Text) (vs : List (Option V)) (k : Text) → ¬ Among ns k → held_among ns vs k ≡ None
none_held [] vs k apart = refl
none_held (n ∷ ns) [] k apart = refl
none_held (n ∷ ns) (v ∷ vs) k apart = grind (arith, none_held ns vs k (λ i. apart (inr i)), bytes_eq-Decides k n)

-- the first of them goes into the map
turn : {V : Type 0} (n : Text) (ns : List Text) (v : Option V) (vs : List (Option V)) (k : Text) (o : Option V) → Ascend (n ∷ ns) →
    option_or (held_among (n ∷ ns) (v ∷ vs) k) o ≡ option_or (held_among ns vs k) (option_or (if bytes_eq k n then v else None) o)
turn n ns v vs k o up = grind (arith, bytes_eq-Decides k n, none_held, first_below, below_one_way)

ascend_later : (ns : List (Bor Text)) (n : ℕ) → Ascend (texts_now ns) → Ascend (texts_now (drop n ns))
ascend_later [] zero up = up
ascend_later [] (suc n) up = up
ascend_later (x ∷ ns) zero up = up
ascend_later (x ∷ ns) (suc n) up = ascend_later ns n (others_ascend x.now (texts_now ns) up)

-- what comes next in a list
pub comes_next : {X : Type 0} (xs : List X) (n : ℕ) (v : X) (ws : List X) → v ∷ ws ≡ drop n xs → (n < length xs) × (slice_get xs n ≡ Some v) × (ws ≡ drop (suc n) xs)
comes_next xs n v ws e =
    let long : suc (length ws) ≡ length (drop n xs) = ap length e in
    let below : n < length xs = omega (arith, long, length-drop n xs) in
    let split = e ∙ drop-cons xs n v below in
    let first : v ≡ get_or xs n v = cc in
    (below, slice_get_read xs (length xs) n v refl below first, cc)

module _ {V S : Type 0} (names : List (Bor Text)) (values : List (Option V)) where
  -- the map has the values of the places below n
  pub record HasPut (n : ℕ) (m : HashMap (Bor Text) V S) : Type 0 where
    pub held : (k : Text) → held_among (texts_now names) values k ≡ option_or (held_among (texts_now (drop n names)) (drop n values) k) (value_at m k)

  pub put_next : (n : ℕ) (m m' : HashMap (Bor Text) V S) (d : Bor Text) (v : Option V) (ws : List (Option V)) → Ascend (texts_now names) → n < length names →
      v ∷ ws ≡ drop n values → ws ≡ drop (suc n) values → ((k : Text) → value_at m' k ≡ option_or (if bytes_eq k (get_or names n d).now then v else None) (value_at m k)) → HasPut n m → HasPut (suc n) m'
  put_next n m m' d v ws up lt here rest put h = grind (arith, drop-cons, turn, ascend_later)

  -- once none comes any more
  pub all_put : (n : ℕ) (m : HashMap (Bor Text) V S) → drop n values ≡ [] → HasPut n m → (k : Text) → value_at m k ≡ held_among (texts_now names) values k
  all_put n m done h k = sym (h.held k ∙ ap (λ xs. option_or (held_among (texts_now (drop n names)) xs k) (value_at m k)) done ∙ ap (λ o. option_or o (value_at m k)) (nothing (texts_now (drop n names))))
    where
      nothing : (ns : List Text) → held_among {V = V} ns [] k ≡ None
      nothing [] = refl
      nothing (x ∷ ns) = refl
