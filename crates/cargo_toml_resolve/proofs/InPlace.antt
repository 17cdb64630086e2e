-- Features by their parts and by their places.
use Rattle.cargo_toml_resolve.proofs.Cited.{Among, AreAlikeIn, AreInOrder, AreTable, Bool, Edge, Feature, HaveNoEnablers, IfSome, IsTrue, LeadsAt, List, None, Option, Said, Some, Table, Text, [], action_at, ap, arith, below_one_way, bytes_eq, bytes_eq-Decides, cases_lt, cond, deeds_of, false, false≢true, feature_at, find, first_below, get_or-set_other, get_or-set_same, if◌then◌else◌, inl, inr, is_below, is_some, length, length-map, length-set, map}
use Rattle.cargo_toml_resolve.proofs.Cited.{map-map, names_of, none_in, nth_text, once, option_map, option_map_or, others_ascend, place_action, place_enabler, place_names, refl, same_Some, set, set_has, slice_get, slice_get-get_or, slice_get-map, slice_get_cases, slice_get_past, slice_get_within, slice_index_or, subst, suc, sym, true, with_said, zero, ℕ, ◌<◌, ◌↔◌, ◌∙◌, ◌∷◌, ◌≡◌, ◌≢◌}

pub set_here : {X : Type 0} (xs : List X) (i : ℕ) (x : X) → i < length xs → slice_get (set xs i x) i ≡ Some x
set_here xs i x lt = slice_get-get_or (set xs i x) i x (subst (λ n. i < n) (sym (length-set xs i x)) lt) ∙ ap Some (get_or-set_same xs i x x lt)

pub set_others : {X : Type 0} (xs : List X) (i j : ℕ) (x : X) → j ≢ i → slice_get (set xs i x) j ≡ slice_get xs j
set_others xs i j x ne = grind (arith, cases_lt j (length xs), slice_get-get_or (set xs i x) j x, slice_get-get_or xs j x, get_or-set_other xs i j x x ne, slice_get_past, length-set xs i x)

mapped_or : {A B : Type 0} (f : A → B) (o : Option A) (d : B) → option_map_or (λ y. y) (option_map f o) d ≡ option_map_or f o d
mapped_or f None d = refl
mapped_or f (Some x) d = refl

module _ {X : Type 0} (part : Feature → X) where
  found : (vs : List Feature) (n : Text) → option_map (with_said part) (feature_at vs n) ≡ find (λ p. bytes_eq n p.0.0.now) (map (with_said part) vs)
  found [] n = refl
  found (v ∷ vs) n = go (bytes_eq n v.key.now) (found vs n)
    where
      go : (b : Bool) → option_map (with_said part) (feature_at vs n) ≡ find (λ p. bytes_eq n p.0.0.now) (map (with_said part) vs) → option_map (with_said part) (cond b (Some v) (feature_at vs n)) ≡ cond b (Some (with_said part v)) (find (λ p. bytes_eq n p.0.0.now) (map (with_said part) vs))
      go true ih = refl
      go false ih = ih

  module _ (old new : List Feature) (alike : AreAlikeIn part old new) where
    pub alike_len : length new ≡ length old
    alike_len = sym (length-map new (with_said part)) ∙ ap length alike ∙ length-map old (with_said part)

    -- what follows from what they say and from the part is alike, too
    pub alike_too : {Y : Type 0} (f : Said × X → Y) → map (λ v. f (with_said part v)) new ≡ map (λ v. f (with_said part v)) old
    alike_too f = sym (map-map f (with_said part) new) ∙ ap (map f) alike ∙ map-map f (with_said part) old

    pub names_alike : names_of new ≡ names_of old
    names_alike = alike_too (λ p. p.0.0.now)

    pub still_alike : {Y : Type 0} (f : X → Y) → AreAlikeIn (λ v. f (part v)) old new
    still_alike {Y} f = alike_too {Y = Said × Y} (λ p. (p.0, f p.1))

    -- place by place
    pub alike_place : {Y : Type 0} (f : Said × X → Y) (i : ℕ) → option_map (λ v. f (with_said part v)) (slice_get new i) ≡ option_map (λ v. f (with_said part v)) (slice_get old i)
    alike_place f i = sym (slice_get-map (λ v. f (with_said part v)) new i) ∙ ap (λ ys. slice_get ys i) (alike_too f) ∙ slice_get-map (λ v. f (with_said part v)) old i

    pub alike_at : {Y : Type 0} (f : Said × X → Y) (d : Y) (i : ℕ) → option_map_or (λ v. f (with_said part v)) (slice_get new i) d ≡ option_map_or (λ v. f (with_said part v)) (slice_get old i) d
    alike_at f d i = sym (mapped_or (λ v. f (with_said part v)) (slice_get new i) d) ∙ ap (λ o. option_map_or (λ y. y) o d) (alike_place f i) ∙ mapped_or (λ v. f (with_said part v)) (slice_get old i) d

    -- and name by name
    pub alike_found : {Y : Type 0} (f : Said × X → Y) (n : Text) → option_map (λ v. f (with_said part v)) (feature_at new n) ≡ option_map (λ v. f (with_said part v)) (feature_at old n)
    alike_found f n = sym (over (feature_at new n)) ∙ ap (option_map f) (found new n ∙ ap (find (λ p. bytes_eq n p.0.0.now)) alike ∙ sym (found old n)) ∙ over (feature_at old n)
      where
        over : (o : Option Feature) → option_map f (option_map (with_said part) o) ≡ option_map (λ v. f (with_said part v)) o
        over None = refl
        over (Some v) = refl

    pub alike_named : {Y : Type 0} (f : Said × X → Y) (d : Y) (n : Text) → option_map_or (λ v. f (with_said part v)) (feature_at new n) d ≡ option_map_or (λ v. f (with_said part v)) (feature_at old n) d
    alike_named f d n = sym (mapped_or (λ v. f (with_said part v)) (feature_at new n) d) ∙ ap (λ o. option_map_or (λ y. y) o d) (alike_found f n) ∙ mapped_or (λ v. f (with_said part v)) (feature_at old n) d

    -- what stands in a place of one stands there in the other
    pub stood : (i : ℕ) (w : Feature) → slice_get new i ≡ Some w → (v : Feature) × (slice_get old i ≡ Some v) × (with_said part w ≡ with_said part v)
    stood i w at =
        let lt : i < length old = subst (λ n. i < n) alike_len (slice_get_within new i w at) in
        let there = slice_get-get_or old i w lt in
        (slice_index_or old i w, there, same_Some (with_said part w) (with_said part (slice_index_or old i w)) (sym (ap (option_map (with_said part)) at) ∙ alike_place (λ p. p) i ∙ ap (option_map (with_said part)) there))

pub some_same : {v w : Feature} → Some v ≡ Some w → v ≡ w
some_same e = cc

no_some : {v : Feature} → None ≡ Some v → ⊥
no_some e = false≢true (ap is_some e)

-- a feature that is found by a name stands somewhere, and has the name
pub found_stands : (vs : List Feature) (f : Text) (v : Feature) → feature_at vs f ≡ Some v → (i : ℕ) × (i < length vs) × (slice_get vs i ≡ Some v) × (v.key.now ≡ f)
found_stands [] f v e = absurd (no_some e)
found_stands (w ∷ vs) f v e = go (λ k. found_stands vs f v k) (bytes_eq f w.key.now) refl e
  where
    go : (feature_at vs f ≡ Some v → (i : ℕ) × (i < length vs) × (slice_get vs i ≡ Some v) × (v.key.now ≡ f)) →
        (b : Bool) → bytes_eq f w.key.now ≡ b → (if b then Some w else feature_at vs f) ≡ Some v → (i : ℕ) × (i < length (w ∷ vs)) × (slice_get (w ∷ vs) i ≡ Some v) × (v.key.now ≡ f)
    go further true is e = (0, omega arith, e, subst (λ (u : Feature). u.key.now ≡ f) (some_same e) (sym ((bytes_eq-Decides f w.key.now).0 is)))
    go further false is e = let s = further e in (suc s.0, (let lt = s.1 in omega arith), s.2, s.3)

-- the name in a place
pub name_in : (vs : List Feature) (i : ℕ) (v : Feature) → slice_get vs i ≡ Some v → nth_text (names_of vs) i ≡ v.key.now
name_in [] i v e = absurd (no_some e)
name_in (w ∷ vs) zero v e = ap (λ (u : Feature). u.key.now) (some_same e)
name_in (w ∷ vs) (suc i) v e = name_in vs i v e

among_names : (vs : List Feature) (i : ℕ) (v : Feature) → slice_get vs i ≡ Some v → Among (names_of vs) v.key.now
among_names [] i v e = absurd (no_some e)
among_names (w ∷ vs) zero v e = inl (ap (λ (u : Feature). u.key.now) (sym (some_same e)))
among_names (w ∷ vs) (suc i) v e = inr (among_names vs i v e)

-- and one in a place is found by its name
pub stands_found : (vs : List Feature) → AreInOrder vs → (i : ℕ) (v : Feature) → slice_get vs i ≡ Some v → feature_at vs v.key.now ≡ Some v
stands_found [] up i v e = absurd (no_some e)
stands_found (w ∷ vs) up zero v e = go (bytes_eq v.key.now w.key.now) refl
  where
    go : (b : Bool) → bytes_eq v.key.now w.key.now ≡ b → (if b then Some w else feature_at vs v.key.now) ≡ Some v
    go b is = grind (arith, bytes_eq-Decides, some_same)
stands_found (w ∷ vs) up (suc i) v e = go (stands_found vs (others_ascend w.key.now (names_of vs) up) i v e) (bytes_eq v.key.now w.key.now) refl
  where
    go : feature_at vs v.key.now ≡ Some v → (b : Bool) → bytes_eq v.key.now w.key.now ≡ b → (if b then Some w else feature_at vs v.key.now) ≡ Some v
    go further false is = further
    go further true is =
        let same : v.key.now ≡ w.key.now = (bytes_eq-Decides v.key.now w.key.now).0 is in
        let below : IsTrue (is_below w.key.now v.key.now) = first_below w.key.now (names_of vs) up v.key.now (among_names vs i v e) in
        let itself : IsTrue (is_below w.key.now w.key.now) = subst (λ x. IsTrue (is_below w.key.now x)) same below in
        absurd (below_one_way w.key.now w.key.now itself itself)

-- no two features have one name
pub one_place : (vs : List Feature) → AreInOrder vs → (i j : ℕ) (v w : Feature) → slice_get vs i ≡ Some v → slice_get vs j ≡ Some w → v.key.now ≡ w.key.now → i ≡ j
one_place [] up i j v w e e' same = absurd (no_some e)
one_place (u ∷ vs) up zero zero v w e e' same = refl
one_place (u ∷ vs) up zero (suc j) v w e e' same =
    let itself : IsTrue (is_below w.key.now w.key.now) = subst (λ x. IsTrue (is_below x w.key.now)) (ap (λ (x : Feature). x.key.now) (some_same e) ∙ same) (first_below u.key.now (names_of vs) up w.key.now (among_names vs j w e')) in
    absurd (below_one_way w.key.now w.key.now itself itself)
one_place (u ∷ vs) up (suc i) zero v w e e' same =
    let itself : IsTrue (is_below v.key.now v.key.now) = subst (λ x. IsTrue (is_below x v.key.now)) (ap (λ (x : Feature). x.key.now) (some_same e') ∙ sym same) (first_below u.key.now (names_of vs) up v.key.now (among_names vs i v e)) in
    absurd (below_one_way v.key.now v.key.now itself itself)
one_place (u ∷ vs) up (suc i) (suc j) v w e e' same = ap suc (one_place vs (others_ascend u.key.now (names_of vs) up) i j v w e e' same)

-- what stands in a place below the end
pub stands_in : (vs : List Feature) (i : ℕ) → i < length vs → (v : Feature) × (slice_get vs i ≡ Some v)
stands_in vs i lt = elim ((slice_get_cases vs i).1) [ inl x ↦ (x.0, x.2) | inr n ↦ absurd (let le = n.0 in omega arith) ]

-- the feature of the name in a place is the one that stands there
pub found_at : (vs : List Feature) → AreInOrder vs → (i : ℕ) → i < length vs → feature_at vs (nth_text (names_of vs) i) ≡ slice_get vs i
found_at vs up i lt =
    let v = stands_in vs i lt in
    ap (feature_at vs) (name_in vs i v.0 v.1) ∙ stands_found vs up i v.0 v.1 ∙ sym v.1

pub no_enabler : (vs : List Feature) → AreInOrder vs → HaveNoEnablers vs → (i : ℕ) → i < length vs → (e : Text) → ¬ IsTrue (place_enabler vs i e)
no_enabler vs up none i lt e = go (slice_get vs i) (subst (λ o. IfSome o (λ v. v.enabled_by.keys ≡ [])) (found_at vs up i lt) (none (nth_text (names_of vs) i)))
  where
    go : (o : Option Feature) → IfSome o (λ v. v.enabled_by.keys ≡ []) → ¬ IsTrue (option_map_or (λ v. set_has v.enabled_by e) o false)
    go None k y = false≢true y
    go (Some v) k y = false≢true (sym (none_in v.enabled_by k e) ∙ y)

-- the table by places
module _ (t : Table) (vs : List Feature) (same : AreTable t vs) (up : AreInOrder vs) where
  abbrev name : ℕ → Text
  name i = nth_text (names_of vs) i

  pub has_place : (f : Text) → IsTrue (t.has f) ↔ ((i : ℕ) × (i < length vs) × (name i ≡ f))
  has_place f = (λ y. go (feature_at vs f) refl (same.has f ∙ y), λ w. grind (arith, found_at vs up w.0 w.1, stands_in vs w.0 w.1, same.has f))
    where
      go : (o : Option Feature) → feature_at vs f ≡ o → is_some o ≡ true → (i : ℕ) × (i < length vs) × (name i ≡ f)
      go o e y = grind (arith, found_stands, name_in)

  pub names_at : (i : ℕ) → i < length vs → (x : Text) → place_names vs i x ≡ t.names (name i) x
  names_at i lt x = over (slice_get vs i) ∙ ap (λ o. option_map_or (λ v. set_has v.enables_features x) o false) (sym (found_at vs up i lt)) ∙ same.names (name i) x
    where
      over : (o : Option Feature) → option_map_or (λ d. set_has d.0 x) (option_map deeds_of o) false ≡ option_map_or (λ v. set_has v.enables_features x) o false
      over None = refl
      over (Some v) = refl

  pub actions_at : (i : ℕ) → i < length vs → (k : Text) → place_action vs i k ≡ t.action (name i) k
  actions_at i lt k = over (slice_get vs i) ∙ ap (λ o. option_map_or (λ v. action_at v.enables_deps k) o None) (sym (found_at vs up i lt)) ∙ same.action (name i) k
    where
      over : (o : Option Feature) → option_map_or (λ d. action_at d.1 k) (option_map deeds_of o) None ≡ option_map_or (λ v. action_at v.enables_deps k) o None
      over None = refl
      over (Some v) = refl

  pub edge_at : (i j : ℕ) → i < length vs → j < length vs → Edge t (name i) (name j) ↔ ((j ≢ i) × LeadsAt vs i (name j))
  edge_at i j lt lt' = (
    λ e. ((λ is. e.apart (ap name (sym is))), rw (names_at i lt (name j), actions_at i lt (name j)) e.leads),
    λ p. record {
      source = (has_place (name i)).1 (i, lt, refl);
      target = (has_place (name j)).1 (j, lt', refl);
      apart = λ e. p.0 (sym (once (names_of vs) up i j (inside i lt) (inside j lt') e));
      leads = rw (← names_at i lt (name j), ← actions_at i lt (name j)) p.1;
    },
  )
    where
      inside : (k : ℕ) → k < length vs → k < length (names_of vs)
      inside k below = subst (λ n. k < n) (sym (length-map vs (λ (v : Feature). v.key.now))) below
