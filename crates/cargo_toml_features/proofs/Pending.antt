-- The lists of pairs, as the actions of one feature are added, and the features still to visit.
use Rattle.cargo_toml_features.proofs.Cited.{Action, AddsPair, AreHeld, BTreeMap, Bool, Bor, DepAction, Feature, HashMap, HaveNoEmpty, IsDistinct, IsDistinct-from_sorted, IsDistinct-tail, IsFalse, IsKeyed, IsTrue, List, Lists, None, NonePasses, Option, PushesNamed, Some, Text, Vec, [], action_at, action_of, ap, append-nil, arith, bytes_eq, bytes_eq-Decides, bytes_eq_sym, common_steps, cond, cond-false, cond-true, deref_pair, eq_by_cmp, eq_by_cmp_equiv, false, hash_map_updates_str, is_at}
use Rattle.cargo_toml_features.proofs.Cited.{is_eq-slice_cmp, is_pending, is_some, keys_of, length, length-append, list_any, list_any-append, lookup, map, map-append, nat_cmp, none_past_head, on_texts, option_copied, option_map, option_map_or, option_to_list, or-false, pairs_at, refl, slice_cmp, slice_get, still, subst, sym, true, unconditional, unwrap_or, value_at, ◌&&◌, ◌++◌, ◌+◌, ◌||◌, ◌∙◌, ◌∷◌, ◌≡◌, ◌≤◌}
use Rattle.std.proofs.Common.{Global}
use Rattle.std.proofs.Common.{append_assoc}
use Rattle.std.specs.Option.{IfSome}
use Rattle.std.specs.Option.{MatchOption}
use Rattle.std.specs.BTreeMap as tree
use Rattle.std.specs.HashMap as hash

module _ {X S : Type 0} (k : Text) (m n : HashMap (Bor Text) X S) (w : Option X) (h : hash.UpdatesBy (λ x y. bytes_eq x.now y.now) (λ q. bytes_eq k q.now) m n w) where
  pub at_key : value_at n k ≡ w
  at_key = hash_map_updates_str k m n w h k ∙ cond-true _ _ _ ((bytes_eq-Decides k k).1 refl)

  pub elsewhere : (q : Text) → bytes_eq k q ≡ false → value_at n q ≡ value_at m q
  elsewhere q apart = hash_map_updates_str k m n w h q ∙ cond-false _ _ _ apart

-- the list `held` that stood at k, or an empty one, became `longer`
pub pair_listed : {S : Type 0} (k : Text) (pair : Bor Text × Bor DepAction) (old new : Lists S) (empty held longer : Vec (Bor Text × Bor DepAction) Global)
    → hash.UpdatesBy (λ x y. bytes_eq x.now y.now) (λ q. bytes_eq k q.now) old new (Some longer)
    → empty.items ≡ [] → held ≡ unwrap_or (value_at old k) empty → longer.items ≡ held.items ++ pair ∷ [] → AddsPair k pair old new
pair_listed k pair old new empty held longer u none here more = record {
  here = ap (λ o. option_map_or (λ v. v.items) o []) (at_key k old new (Some longer) u) ∙ more ∙ ap (λ l. l ++ pair ∷ []) (ap (λ v. v.items) here ∙ was (value_at old k));
  others = elsewhere k old new (Some longer) u;
}
  where
    was : (o : Option (Vec (Bor Text × Bor DepAction) Global)) → (unwrap_or o empty).items ≡ option_map_or (λ v. v.items) o []
    was None = none
    was (Some v) = refl

-- the pairs under any key, once one more pair stands under k
pub pairs_more : {S : Type 0} (k : Text) (pair : Bor Text × Bor DepAction) (old new : Lists S) → AddsPair k pair old new
    → (q : Text) → pairs_at new q ≡ pairs_at old q ++ cond (bytes_eq k q) ((pair.0.now, action_of pair.1.now) ∷ []) []
pairs_more k pair old new h q = grind (arith, common_steps, bytes_eq-Decides, map-append, append-nil)

-- no list becomes empty
pub still_no_empty : {S : Type 0} (k : Text) (pair : Bor Text × Bor DepAction) (old new : Lists S) → AddsPair k pair old new → HaveNoEmpty old → HaveNoEmpty new
still_no_empty k pair old new h none q = grind (arith, common_steps, bytes_eq-Decides)

-- the test by which a text is looked up among ordered keys
abbrev pub is_key : Text → Bor Text → Bool
is_key k = is_at (λ q. slice_cmp nat_cmp k q.now)

module _ (f : Text) (k : Text) where
  abbrev pub own_pair : Bor Text × DepAction → List (Text × Action)
  own_pair e = cond (is_key k e.0) (unconditional f (Some (action_of e.1))) []

  -- one pair for each entry at k whose action isn't conditional
  abbrev pub own_pairs : List (Bor Text × DepAction) → List (Text × Action)
  own_pairs [] = []
  own_pairs (e ∷ es) = own_pair e ++ own_pairs es

  own_pairs-push : (es : List (Bor Text × DepAction)) (e : Bor Text × DepAction) → own_pairs (es ++ e ∷ []) ≡ own_pairs es ++ own_pair e
  own_pairs-push [] e = append-nil _
  own_pairs-push (x ∷ es) e = ap (λ l. own_pair x ++ l) (own_pairs-push es e) ∙ sym (append_assoc (own_pair x) (own_pairs es) (own_pair e))

  own_pairs-none : (es : List (Bor Text × DepAction)) → NonePasses (is_key k) es → own_pairs es ≡ []
  own_pairs-none [] n = refl
  own_pairs-none (e ∷ es) n = ap (λ b. cond b (unconditional f (Some (action_of e.1))) [] ++ own_pairs es) n.0 ∙ own_pairs-none es n.1

  abbrev same_key : Bor Text → Bor Text → Bool
  same_key = eq_by_cmp (λ x y. slice_cmp nat_cmp x.now y.now)

  -- a key stands once among ordered keys
  own_pairs-lookup : (es : List (Bor Text × DepAction)) → IsDistinct same_key (keys_of es) → own_pairs es ≡ unconditional f (option_map action_of (lookup (is_key k) es))
  own_pairs-lookup [] d = refl
  own_pairs-lookup (e ∷ es) d = go (own_pairs-lookup es (IsDistinct-tail same_key e.0 (keys_of es) d)) (is_key k e.0) refl
    where
      go : own_pairs es ≡ unconditional f (option_map action_of (lookup (is_key k) es)) → (b : Bool) → is_key k e.0 ≡ b → cond b (unconditional f (Some (action_of e.1))) [] ++ own_pairs es ≡ unconditional f (option_map action_of (cond b (Some e.1) (lookup (is_key k) es)))
      go later true here =
          let none = none_past_head (eq_by_cmp_equiv (on_texts (λ (q : Bor Text). q.now))) (record { ref_ptr = (0, 0); now = k }) e es d here in
          ap (λ l. unconditional f (Some (action_of e.1)) ++ l) (own_pairs-none es none) ∙ append-nil _
      go later false off = later

  own_pairs_of : (m : BTreeMap (Bor Text) DepAction) → tree.IsOrdered (λ x y. slice_cmp nat_cmp x.now y.now) m → own_pairs m.entries ≡ unconditional f (action_at m k)
  own_pairs_of m o = own_pairs-lookup m.entries (IsDistinct-from_sorted _ (tree.keys m) o)

-- a step of the loop: pairs so far, then those of one more entry
module _ (f k : Text) (ys : List (Bor (Bor Text) × Bor DepAction)) (y : Bor (Bor Text) × Bor DepAction) where
  one_more : own_pairs f k (map deref_pair (ys ++ y ∷ [])) ≡ own_pairs f k (map deref_pair ys) ++ own_pair f k (y.0.now, y.1.now)
  one_more = ap (own_pairs f k) (map-append deref_pair ys (y ∷ [])) ∙ own_pairs-push f k (map deref_pair ys) (y.0.now, y.1.now)

  is_key-bytes_eq : is_key k y.0.now ≡ bytes_eq y.0.now.now k
  is_key-bytes_eq = is_eq-slice_cmp k y.0.now.now ∙ bytes_eq_sym k y.0.now.now

  pub listed_one : (first old new : List (Text × Action)) → IsFalse y.1.now.is_conditional → new ≡ old ++ cond (bytes_eq y.0.now.now k) ((f, action_of y.1.now) ∷ []) []
      → old ≡ first ++ own_pairs f k (map deref_pair ys) → new ≡ first ++ own_pairs f k (map deref_pair (ys ++ y ∷ []))
  listed_one first old new plain more e = grind (arith, common_steps, is_key-bytes_eq, append_assoc, one_more)

  pub listed_none : (first old : List (Text × Action)) → IsTrue y.1.now.is_conditional → old ≡ first ++ own_pairs f k (map deref_pair ys) → old ≡ first ++ own_pairs f k (map deref_pair (ys ++ y ∷ []))
  listed_none first old conditional e = grind (arith, common_steps, append-nil, one_more)

-- the end of the loop: the pairs are those of all entries
pub all_listed : (f k : Text) (ys : List (Bor (Bor Text) × Bor DepAction)) (m : BTreeMap (Bor Text) DepAction) → map deref_pair ys ≡ m.entries → tree.IsOrdered (λ x y. slice_cmp nat_cmp x.now y.now) m
    → (first new : List (Text × Action)) → new ≡ first ++ own_pairs f k (map deref_pair ys) → new ≡ first ++ unconditional f (action_at m k)
all_listed f k ys m all o first new e = e ∙ ap (λ l. first ++ l) (ap (own_pairs f k) all ∙ own_pairs_of f k m o)

any-push : {X : Type 0} (test : X → Bool) (xs : List X) (x : X) → list_any test (xs ++ x ∷ []) ≡ (list_any test xs || test x)
any-push test xs x = list_any-append test xs (x ∷ []) ∙ ap (λ b. list_any test xs || b) (or-false (test x))

pub is_pending-push : (L : List (Bor Feature)) (v : Bor Feature) (x : Text) → is_pending (L ++ v ∷ []) x ≡ (is_pending L x || bytes_eq x v.now.key.now)
is_pending-push L v x = any-push (λ v. bytes_eq x v.now.key.now) L v

-- a feature that stands in a keyed map has the key under which it stands
pub key_of : {S : Type 0} (m : HashMap (Bor Text) Feature S) → IsKeyed m → (f : Text) (v : Feature) → value_at m f ≡ Some v → v.key.now ≡ f
key_of m keyed f v e = subst (λ o. IfSome o (λ v. v.key.now ≡ f)) e (keyed f)

module _ {S : Type 0} (m : HashMap (Bor Text) Feature S) where
  pub held-push : (L : List (Bor Feature)) (v : Bor Feature) → AreHeld m L → value_at m v.now.key.now ≡ Some v.now → AreHeld m (L ++ v ∷ [])
  held-push [] v a e = (e, tt)
  held-push (x ∷ L) v a e = (a.0, held-push L v a.1 e)

  -- of the names, `rest` are still to look up
  pub record Pushes (names : List (Bor Text)) (L0 L : List (Bor Feature)) (rest : List (Bor Text)) : Type 0 where
    pub pending : (x : Text) → (is_pending L x || (list_any (is_key x) rest && is_some (value_at m x))) ≡ (is_pending L0 x || (list_any (is_key x) names && is_some (value_at m x)))
    pub held : AreHeld m L0 → AreHeld m L
    pub count : length L + length rest ≤ length L0 + length names

  pub pushes_begun : (names rest : List (Bor Text)) (L : List (Bor Feature)) → rest ≡ names → Pushes names L L rest
  pushes_begun names rest L same = grind (arith, common_steps, is_key)

  module _ (names : List (Bor Text)) (L0 L : List (Bor Feature)) (rest rest' : List (Bor Text)) (k : Bor Text) (taken : rest ≡ rest' ++ k ∷ []) (h : Pushes names L0 L rest) where
    shorter : length rest ≡ length rest' + 1
    shorter = ap length taken ∙ length-append rest' (k ∷ [])

    was : (x : Text) → (is_pending L x || ((list_any (is_key x) rest' || bytes_eq x k.now) && is_some (value_at m x))) ≡ (is_pending L0 x || (list_any (is_key x) names && is_some (value_at m x)))
    was x = ap (λ b. is_pending L x || (b && is_some (value_at m x))) (sym (ap (list_any (is_key x)) taken ∙ any-push (is_key x) rest' k ∙ ap (λ b. list_any (is_key x) rest' || b) (is_eq-slice_cmp x k.now))) ∙ h.pending x

    -- a name that no feature has
    pub pushes_none : value_at m k.now ≡ None → Pushes names L0 L rest'
    pushes_none none = grind (arith, common_steps, was, shorter, is_key, or-false, bytes_eq-Decides)

    -- the feature of that name is to be visited
    pub pushes_one : (v : Bor Feature) (L' : List (Bor Feature)) → value_at m k.now ≡ Some v.now → v.now.key.now ≡ k.now → L' ≡ L ++ v ∷ [] → Pushes names L0 L' rest'
    pushes_one v L' here own pushed = grind (arith, common_steps, is_key, is_pending-push, was, held-push, shorter, length-append, bytes_eq-Decides)

  -- no name is left to look up
  pub pushes_all : (v : Feature) (L0 L : List (Bor Feature)) (rest : List (Bor Text)) → rest ≡ [] → Pushes v.enables_features.keys L0 L rest → PushesNamed m v L0 L
  pushes_all v L0 L rest none h = grind (arith, common_steps, or-false, is_key)

  -- a feature whose one name is k
  module _ (v : Feature) (L : List (Bor Feature)) (k : Bor Text) (sole : v.enables_features.keys ≡ k ∷ []) where
    begun : Pushes (k ∷ []) L L (k ∷ [])
    begun = pushes_begun (k ∷ []) (k ∷ []) L refl

    sole_named_nothing : value_at m k.now ≡ None → PushesNamed m v L L
    sole_named_nothing none = pushes_all v L L [] refl (subst (λ names. Pushes names L L []) (sym sole) (pushes_none (k ∷ []) L L (k ∷ []) [] k refl begun none))

    sole_named_one : (w : Bor Feature) → value_at m k.now ≡ Some w.now → w.now.key.now ≡ k.now → PushesNamed m v L (L ++ w ∷ [])
    sole_named_one w here own = pushes_all v L (L ++ w ∷ []) [] refl (subst (λ names. Pushes names L (L ++ w ∷ []) []) (sym sole) (pushes_one (k ∷ []) L L (k ∷ []) [] k refl begun w (L ++ w ∷ []) here own refl))

    -- what looking the name up answers
    pub sole_looked_up : IsKeyed m → (r : Option (Bor Feature)) → option_copied r ≡ value_at m k.now → MatchOption r (PushesNamed m v L L) (λ w. PushesNamed m v L (L ++ w ∷ []))
    sole_looked_up v0 v1 v2 = grind (arith, common_steps, sole_named_nothing, sole_named_one, key_of)

pub sole_of : {X : Type 0} (xs : List X) (x : X) → length xs ≤ 1 → slice_get xs 0 ≡ Some x → xs ≡ x ∷ []
sole_of [] x short here = grind (arith, common_steps)
sole_of (y ∷ []) x short here = cc
sole_of (y ∷ z ∷ xs) x short here = absurd (omega (arith, short))

-- what `pop` leaves and gives
pub still_popped : (old new : Vec (Bor Feature) Global) (r : Option (Bor Feature)) → old.items ≡ new.items ++ option_to_list r → MatchOption r ((old.len ≡ 0) × (new.len ≡ 0)) (λ _. new.len + 1 ≡ old.len) → old.items ≡ still new.items r
still_popped v0 v1 v2 v3 v4 = grind (arith, common_steps)
