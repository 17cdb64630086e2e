-- The work that is left to a walk that marks a feature when it is taken from the stack: a measure for the depth-first order.
use Rattle.cargo_toml_features.proofs.Cited.{Action, AddsActions, Among, AreEnabled, AreHeld, ArePairs, Bool, Bor, ComeFrom, Enables, Feature, Found, HashMap, HaveNoEmpty, IsFalse, IsOnce, IsTrue, List, Lists, None, Option, PushesNamed, PutsFound, Some, Table, Text, [], action_at, among-either, among-first, among-second, ap, append-nil, arith, bytes_eq, bytes_eq-Decides, cases_Bool, common_steps, cond, false}
use Rattle.cargo_toml_features.proofs.Cited.{false≢true, further, inl, inr, is_pending, is_some, itself, length, length-append, lookup, map, map-append, once-push, option_map_or, or_cases, or_left, or_right, pairs_at, refl, rules, set_has, subst, suc, sym, table_in, true, unconditional, value_at, ℕ, ◌&&◌, ◌++◌, ◌+◌, ◌<◌, ◌∙◌, ◌∷◌, ◌≡◌, ◌≤◌, ◌⊎◌}
use Rattle.cargo_toml_features.proofs.Pending.{is_pending-push}

-- one for each feature that is not found, and one for each of its names
abbrev pub work : (Text → Bool) → List (Bor Text × Feature) → ℕ
work found [] = 0
work found (e ∷ es) = cond (found e.0.now) 0 (suc (length e.1.enables_features.keys)) + work found es

module _ (found found' : Text → Bool) (sub : (x : Text) → found x ≡ true → found' x ≡ true) where
  one_less : (x : Text) (n : ℕ) → cond (found' x) 0 n ≤ cond (found x) 0 n
  one_less x n = grind (arith, common_steps, false≢true)

  pub work_less : (es : List (Bor Text × Feature)) → work found' es ≤ work found es
  work_less [] = omega arith
  work_less (e ∷ es) = let h = work_less es in let o = one_less e.0.now (suc (length e.1.enables_features.keys)) in omega (arith, h, o)

  -- once k is found too, its names are work no more
  pub work_drops : (k : Text) (v : Feature) → found k ≡ false → found' k ≡ true → (es : List (Bor Text × Feature)) → lookup (λ q. bytes_eq k q.now) es ≡ Some v → work found' es + suc (length v.enables_features.keys) ≤ work found es
  work_drops k v off on [] e = grind (arith, common_steps, bytes_eq-Decides, work_less, one_less)
  work_drops k v off on (x ∷ es) e = grind (arith, common_steps, bytes_eq-Decides, work_less, one_less, work_drops k v off on es)

-- a feature of this name is found
abbrev pub is_found : {S : Type 0} → Found S → Text → Bool
is_found F x = is_some (value_at F x)

-- one pair for each found feature whose action on k isn't conditional
pub record ArePairsOf (t : Table) (found : Text → Type 0) (k : Text) (pairs : List (Text × Action)) : Type 0 where
  pub sound : (g : Text) (a : Action) → Among pairs (g, a) → found g × (t.action g k ≡ Some a) × IsFalse a.is_conditional
  pub complete : (g : Text) (a : Action) → found g → t.action g k ≡ Some a → IsFalse a.is_conditional → Among pairs (g, a)
  pub once : IsOnce (map (λ p. p.0) pairs)

-- what is found or pending is enabled, and what a found feature names is found or pending
pub record Walks {S : Type 0} (m : HashMap (Bor Text) Feature S) (s : Text) (F : Found S) (E : Lists S) (L : List (Bor Feature)) : Type 0 where
  pub begun : IsTrue (is_found F s) ⊎ IsTrue (is_pending L s)
  pub found : (x : Text) → IsTrue (is_found F x) → Enables (table_in m) s x
  pub pending : (x : Text) → IsTrue (is_pending L x) → Enables (table_in m) s x
  pub held : AreHeld m L
  pub same : ComeFrom m F
  pub closed : (x y : Text) → IsTrue (is_found F x) → IsTrue ((table_in m).names x y) → IsTrue ((table_in m).has y) → IsTrue (is_found F y) ⊎ IsTrue (is_pending L y)
  pub pairs : (k : Text) → ArePairsOf (table_in m) (λ g. IsTrue (is_found F g)) k (pairs_at E k)
  pub no_empty : HaveNoEmpty E

-- ---- lists of pairs
with_action : (pairs : List (Text × Action)) (g : Text) → Among (map (λ p. p.0) pairs) g → (a : Action) × Among pairs (g, a)
with_action [] g h = absurd h
with_action (p ∷ pairs) g (inl e) = (p.1, inl (ap (λ x. (x, p.1)) e))
with_action (p ∷ pairs) g (inr h) = let r = with_action pairs g h in (r.0, inr r.1)

-- one more feature f is found, and its action o is listed
module _ (t : Table) (found found' : Text → Type 0) (f k : Text) (old : List (Text × Action)) (h : ArePairsOf t found k old)
    (new : ¬ found f) (grows : (x : Text) → found x → found' x) (here : found' f) (only : (x : Text) → found' x → (x ≡ f) ⊎ found x) where
  sound_before : (g : Text) (a : Action) → Among old (g, a) → found' g × (t.action g k ≡ Some a) × IsFalse a.is_conditional
  sound_before g a i = let s = h.sound g a i in (grows g s.0, s.1, s.2)

  nothing_listed : ((a : Action) → t.action f k ≡ Some a → IsTrue a.is_conditional) → ArePairsOf t found' k (old ++ [])
  nothing_listed none = grind (arith, common_steps, append-nil, sound_before, only, false≢true)

  one_listed : (b : Action) → t.action f k ≡ Some b → IsFalse b.is_conditional → ArePairsOf t found' k (old ++ (f, b) ∷ [])
  one_listed b at plain = grind (arith, common_steps, among-either, sound_before, here, only, among-second, among-first, map-append, once-push, with_action)

  pub pairs_joined : (o : Option Action) → t.action f k ≡ o → ArePairsOf t found' k (old ++ unconditional f o)
  pairs_joined None at = grind (arith, common_steps, nothing_listed, one_listed)
  pairs_joined (Some b) at = go b.is_conditional refl
    where
      some_same : {X : Type 0} {x y : X} → Some x ≡ Some y → x ≡ y
      some_same e = cc

      go : (c : Bool) → b.is_conditional ≡ c → ArePairsOf t found' k (old ++ cond c [] ((f, b) ∷ []))
      go true e = nothing_listed (λ a i. ap (λ x. x.is_conditional) (some_same (sym i ∙ at)) ∙ e)
      go false e = one_listed b at e

-- ---- the walk
module _ {S : Type 0} (m : HashMap (Bor Text) Feature S) (s : Text) where
  held_parts : (L : List (Bor Feature)) (v : Bor Feature) → AreHeld m (L ++ v ∷ []) → AreHeld m L × (value_at m v.now.key.now ≡ Some v.now)
  held_parts [] v a = (tt, a.0)
  held_parts (x ∷ L) v a = let r = held_parts L v a.1 in ((a.0, r.0), r.1)

  split_pending : (L : List (Bor Feature)) (v : Bor Feature) (x : Text) → IsTrue (is_pending (L ++ v ∷ []) x) → IsTrue (is_pending L x) ⊎ (x ≡ v.now.key.now)
  split_pending L v x e = elim (or_cases (is_pending L x) (bytes_eq x v.now.key.now) (sym (is_pending-push L v x) ∙ e)) [ inl a ↦ inl a | inr b ↦ inr ((bytes_eq-Decides x v.now.key.now).0 b) ]

  was_pending : (L : List (Bor Feature)) (v : Bor Feature) (x : Text) → IsTrue (is_pending L x) → IsTrue (is_pending (L ++ v ∷ []) x)
  was_pending L v x e = is_pending-push L v x ∙ or_left _ _ e

  last_pending : (L : List (Bor Feature)) (v : Bor Feature) → IsTrue (is_pending (L ++ v ∷ []) v.now.key.now)
  last_pending L v = is_pending-push L v v.now.key.now ∙ or_right _ _ ((bytes_eq-Decides v.now.key.now v.now.key.now).1 refl)

  -- the feature v of the map is put among those that are found
  module _ (F F' : Found S) (v : Bor Feature) (u : PutsFound v F F') where
    at_new : IsTrue (is_found F' v.now.key.now)
    at_new = ap is_some u.here

    grows : (x : Text) → IsTrue (is_found F x) → IsTrue (is_found F' x)
    grows x e = grind (arith, common_steps, cases_Bool, bytes_eq-Decides, at_new)

    only : (x : Text) → IsTrue (is_found F' x) → (x ≡ v.now.key.now) ⊎ IsTrue (is_found F x)
    only x e = grind (arith, common_steps, cases_Bool, bytes_eq-Decides)

    still_same : value_at m v.now.key.now ≡ Some v.now → ComeFrom m F → ComeFrom m F'
    still_same here same x = grind (arith, common_steps, here, cases_Bool, bytes_eq-Decides)

  -- a feature that was found before is put there again
  module _ (F F' : Found S) (E : Lists S) (L : List (Bor Feature)) (v : Bor Feature) (w : Walks m s F E (L ++ v ∷ [])) (old : IsTrue (is_found F v.now.key.now))
      (u : PutsFound v F F') where
    was_found : (x : Text) → IsTrue (is_found F' x) → IsTrue (is_found F x)
    was_found x e = elim (only F F' v u x e) [ inl i ↦ ap (is_found F) i ∙ old | inr f ↦ f ]

    found_or_left : (x : Text) → IsTrue (is_pending (L ++ v ∷ []) x) → IsTrue (is_found F' x) ⊎ IsTrue (is_pending L x)
    found_or_left x l = elim (split_pending L v x l) [ inl a ↦ inr a | inr e ↦ inl (ap (is_found F') e ∙ at_new F F' v u) ]

    same_pairs : (k : Text) → ArePairsOf (table_in m) (λ g. IsTrue (is_found F' g)) k (pairs_at E k)
    same_pairs k = grind (arith, common_steps, grows, was_found)

    pub walks_on : Walks m s F' E L
    walks_on = search (rules, grows, found_or_left, was_found, was_pending, held_parts, still_same, same_pairs)

    pub walks_on_less : work (is_found F') m.entries + length L < work (is_found F) m.entries + length (L ++ v ∷ [])
    walks_on_less = grind (arith, common_steps, work_less, grows, length-append)

  -- a feature that is visited now
  module _ (F F' : Found S) (E E' : Lists S) (L L' : List (Bor Feature)) (v : Bor Feature) (w : Walks m s F E (L ++ v ∷ [])) (new : is_found F v.now.key.now ≡ false)
      (u : PutsFound v F F') (listed : AddsActions v.now E E') (kept : HaveNoEmpty E → HaveNoEmpty E') (pushed : PushesNamed m v.now L L') where
    here : value_at m v.now.key.now ≡ Some v.now
    here = (held_parts L v w.held).1

    named : (y : Text) → (table_in m).names v.now.key.now y ≡ set_has v.now.enables_features y
    named y = ap (λ o. option_map_or (λ f. set_has f.enables_features y) o false) here

    acts : (k : Text) → (table_in m).action v.now.key.now k ≡ action_at v.now.enables_deps k
    acts k = ap (λ o. option_map_or (λ f. action_at f.enables_deps k) o None) here

    enabled : Enables (table_in m) s v.now.key.now
    enabled = w.pending v.now.key.now (last_pending L v)

    found_or_pending : (x : Text) → IsTrue (is_pending (L ++ v ∷ []) x) → IsTrue (is_found F' x) ⊎ IsTrue (is_pending L' x)
    found_or_pending x l = elim (split_pending L v x l) [ inl a ↦ inr (pushed.pending x ∙ or_left _ _ a) | inr e ↦ inl (ap (is_found F') e ∙ at_new F F' v u) ]

    by_name : (x : Text) (a b : Bool) → (a && b) ≡ true → (a ≡ true) × (b ≡ true)
    by_name v0 v1 v2 v3 = grind (arith, common_steps, false≢true)

    both : (a b : Bool) → a ≡ true → b ≡ true → (a && b) ≡ true
    both a b e e' = ap (λ x. x && b) e ∙ e'

    pub visited : Walks m s F' E' L'
    visited = record {
      begun = elim w.begun [ inl f ↦ inl (grows F F' v u s f) | inr l ↦ found_or_pending s l ];
      found = λ x e. elim (only F F' v u x e) [ inl i ↦ subst (Enables (table_in m) s) (sym i) enabled | inr f ↦ w.found x f ];
      pending = λ x e. elim (or_cases (is_pending L x) (set_has v.now.enables_features x && is_some (value_at m x)) (sym (pushed.pending x) ∙ e)) [
        | inl a ↦ w.pending x (was_pending L v x a)
        | inr b ↦ let p = by_name x _ _ b in further enabled (named x ∙ p.0) p.1
      ];
      held = pushed.held (held_parts L v w.held).0;
      same = still_same F F' v u here w.same;
      closed = λ x y f n h. elim (only F F' v u x f) [
        | inl i ↦ inr (pushed.pending y ∙ or_right _ _ (both _ _ (sym (named y) ∙ subst (λ z. IsTrue ((table_in m).names z y)) i n) h))
        | inr f ↦ elim (w.closed x y f n h) [ inl g ↦ inl (grows F F' v u y g) | inr l ↦ found_or_pending y l ]
      ];
      pairs = λ k. subst (ArePairsOf (table_in m) (λ g. IsTrue (is_found F' g)) k) (sym (listed k))
          (pairs_joined (table_in m) (λ g. IsTrue (is_found F g)) (λ g. IsTrue (is_found F' g)) v.now.key.now k (pairs_at E k) (w.pairs k) (λ i. false≢true (sym new ∙ i)) (grows F F' v u) (at_new F F' v u) (only F F' v u) (action_at v.now.enables_deps k) (acts k));
      no_empty = kept w.no_empty;
    }

    -- less is left to do
    pub visited_less : work (is_found F') m.entries + length L' < work (is_found F) m.entries + length (L ++ v ∷ [])
    visited_less = grind (arith, common_steps, work_drops, grows, at_new, here, length-append)

  -- the start is pending, and nothing is found
  pub begins : (F : Found S) (E : Lists S) (L : List (Bor Feature)) (v : Bor Feature) → F.entries ≡ [] → E.entries ≡ [] → L ≡ v ∷ [] → value_at m s ≡ Some v.now → v.now.key.now ≡ s → Walks m s F E L
  begins v0 v1 v2 v3 v4 v5 v6 v7 v8 = search (rules, or_left, bytes_eq-Decides, or_cases, itself)

  -- nothing is pending
  module _ (F : Found S) (E : Lists S) (w : Walks m s F E []) where
    all_found : {y : Text} → Enables (table_in m) s y → IsTrue (is_found F y)
    all_found itself = elim w.begun [ inl f ↦ f | inr l ↦ absurd (false≢true l) ]
    all_found (further {g} {x} e n h) = elim (w.closed g x (all_found e) n h) [ inl f ↦ f | inr l ↦ absurd (false≢true l) ]

    pub all_enabled : AreEnabled m s F
    all_enabled x = (w.found x, all_found)

    pub all_pairs : (k : Text) → ArePairs (table_in m) s k (pairs_at E k)
    all_pairs k = grind (arith, common_steps, all_found)
