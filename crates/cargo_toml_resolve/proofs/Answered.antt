-- What holds of a graph of numbers holds of the table that it stands for, and so do its features.
use Rattle.cargo_toml_resolve.proofs.Cited.{Action, Bool, Bor, Edge, EnablesThrough, Feature, Gathers, GathersLabel, HasNumber, HashMap, IsEnabledBy, IsJoin, IsKept, IsKeptFeature, IsNaming, IsNumbered, IsPassed, IsRedirect, IsResolved, IsSomeAnd, IsTrue, IsUnder, IsWanted, KeepsLabel, KeepsName, Leads, List, None, Option, PassesAny, Reaches, ReachesThrough, RedirectsTo, Says, Some, StandFor, Table, Text, action_at, ap}
use Rattle.cargo_toml_resolve.proofs.Cited.{arith, cases_Bool, deeds_of, edge, false, false≢true, inl, inr, is_below, is_some, join_alike, length, lower_place, nth_text, option_map_or, place_action, place_deeds, place_enabler, place_names, refl, resolution_of, set_has, subst, sym, target, through, true, value_at, ℕ, ◌<◌, ◌↔◌, ◌∙◌, ◌≡◌, ◌⊎◌}
use Rattle.cargo_toml_resolve.proofs.InPlace.{actions_at, names_at}
use Rattle.cargo_toml_resolve.specs.Holding.{Holds}

module _ (t : Table) (Removed : Text → Type 0) (texts : List Text) (edges names : List (List ℕ)) (flags : List Bool)
    (h : IsNumbered t Removed texts edges names flags) where
  -- S is the set of the numbers whose texts are in T
  module _ (S : ℕ → Type 0) (T : Text → Type 0) (same : (i : ℕ) → i < length edges → S i ↔ T (nth_text texts i)) where
    to_texts : {i j : ℕ} → i < length edges → Reaches (Leads edges) S i j → (j < length edges) × Reaches (Edge t) T (nth_text texts i) (nth_text texts j)
    to_texts {i} {j} below (edge e) = let d = (h.leads i j below).0 e in (d.0, edge d.1)
    to_texts {i} {j} below (through {b} e s p) =
        let d = (h.leads i b below).0 e in
        let rest = to_texts d.0 p in
        (rest.0, through d.1 ((same b d.0).0 s) rest.1)

    to_numbers : {v w : Text} → Reaches (Edge t) T v w → (i j : ℕ) → i < length edges → j < length edges → nth_text texts i ≡ v → nth_text texts j ≡ w → Reaches (Leads edges) S i j
    to_numbers {v} {w} (edge e) i j below below' at at' =
        edge ((h.leads i j below).1 (below', subst (λ x. Edge t (nth_text texts i) x) (sym at') (subst (λ x. Edge t x w) (sym at) e)))
    to_numbers (through {b} e s p) i j below below' at at' =
        let k = (h.vertex b).0 e.target in
        let first : Edge t (nth_text texts i) (nth_text texts k.0) = subst (λ x. Edge t (nth_text texts i) x) (sym k.2) (subst (λ x. Edge t x b) (sym at) e) in
        through ((h.leads i k.0 below).1 (k.1, first)) ((same k.0 k.1).1 (subst T (sym k.2) s)) (to_numbers p k.0 j k.1 below' k.2 at')

    -- a path of numbers is a path of texts
    pub reaches_between : (i j : ℕ) → i < length edges → j < length edges → Reaches (Leads edges) S i j ↔ Reaches (Edge t) T (nth_text texts i) (nth_text texts j)
    reaches_between i j below below' = (λ p. (to_texts below p).1, λ p. to_numbers p i j below below' refl refl)

    -- a number's walk stays among vertices
    pub reaches_inside : (i j : ℕ) → i < length edges → Reaches (Leads edges) S i j → j < length edges
    reaches_inside i j below p = (to_texts below p).0

    pub gathers_inside : (i b : ℕ) → i < length edges → Gathers (Leads edges) S i b → b < length edges
    gathers_inside i b below p = grind (arith, reaches_inside)

    gathers_to : (i b : ℕ) → i < length edges → Gathers (Leads edges) S i b → Gathers (Edge t) T (nth_text texts i) (nth_text texts b)
    gathers_to i b below p = grind (arith, to_texts)

    gathers_from : (i : ℕ) (v : Text) → i < length edges → Gathers (Edge t) T (nth_text texts i) v → HasNumber texts (length edges) (Gathers (Leads edges) S i) v
    gathers_from i v below p = grind (arith, target, to_numbers)

    -- a vertex gathers the labels of what it gathers as a number
    pub gathers_each : {X : Type 0} (Has : Text → X → Type 0) (i : ℕ) (x : X) → i < length edges
        → GathersLabel (Edge t) T Has (nth_text texts i) x ↔ GathersLabel (Leads edges) S (λ b y. Has (nth_text texts b) y) i x
    gathers_each Has i x below = grind (arith, gathers_from, gathers_to)

    pub gathers_label : (i : ℕ) (x : Text) → i < length edges → ((k : ℕ) → Gathers (Leads edges) S i k → IsNaming edges flags k)
        → GathersLabel (Edge t) T (λ b y. IsTrue (t.names b y)) (nth_text texts i) x ↔ HasNumber texts (length texts) (GathersLabel (Leads edges) S (Leads names) i) x
    gathers_label i x below asked = (
      λ l. grind (arith, gathers_from i l.0 below l.1),
      λ n.
          let b = n.3.0 in
          (nth_text texts b, gathers_to i b below n.3.1, (h.labels b x (gathers_inside i b below n.3.1) (asked b n.3.1)).1 (n.0, n.1, n.2, n.3.2)),
    )

  pub vertex_flag : (i : ℕ) → i < length edges → IsWanted flags true i ↔ Removed (nth_text texts i)
  vertex_flag i below = h.flagged i (let fits = h.count in omega arith)

  pub reaches_text : (i j : ℕ) → i < length edges → j < length edges
      → Reaches (Leads edges) (IsWanted flags true) i j ↔ ReachesThrough t Removed (nth_text texts i) (nth_text texts j)
  reaches_text i j below below' = reaches_between (IsWanted flags true) Removed vertex_flag i j below below'

  -- a number whose flag doesn't stand is the text of nothing removed
  pub unflagged : (j : ℕ) → j < length texts → IsWanted flags false j ↔ (¬ Removed (nth_text texts j))
  unflagged j below = grind (arith, cases_Bool)

  -- what one of these gathers is asked for its names too
  all_asked : (i : ℕ) → IsNaming edges flags i → (k : ℕ) → Gathers (Leads edges) (IsWanted flags true) i k → IsNaming edges flags k
  all_asked i asked k p = grind arith

  pub keeps_name : (i : ℕ) (x : Text) → i < length edges → IsNaming edges flags i → KeepsName t Removed (nth_text texts i) x ↔ HasNumber texts (length texts) (KeepsLabel edges flags names i) x
  keeps_name i x below asked = (
    λ n.
        let l = (gathers_label (IsWanted flags true) Removed vertex_flag i x below (all_asked i asked)).0 n.0 in
        (l.0, l.1, l.2, (l.3, (unflagged l.0 l.1).1 (λ r. n.1 (subst Removed l.2 r)))),
    λ l. (
      (gathers_label (IsWanted flags true) Removed vertex_flag i x below (all_asked i asked)).1 (l.0, l.1, l.2, l.3.0),
      λ r. (unflagged l.0 l.1).0 l.3.1 (subst Removed (sym l.2) r),
    ),
  )

  pub is_enabled_by : (f : ℕ) (e : Text) → f < length edges
      → IsEnabledBy t Removed (nth_text texts f) e ↔ HasNumber texts (length edges) (λ j. IsWanted flags false j × Reaches (Leads edges) (IsWanted flags true) j f) e
  is_enabled_by f e below = grind (arith, unflagged, to_numbers, vertex_flag, reaches_text)

  pub says : (i : ℕ) (k : Text) (a : Action) → i < length edges
      → Says t Removed (nth_text texts i) k a ↔ ((b : ℕ) × ((b ≡ i) ⊎ IsPassed edges flags i b) × (t.action (nth_text texts b) k ≡ Some a))
  says i k a below = gathers_each (IsWanted flags true) Removed vertex_flag (λ b x. t.action b k ≡ Some x) i a below

  -- the removed texts below that of r
  abbrev pub Lower : ℕ → Text → Type 0
  Lower r s = Removed s × IsTrue (is_below s (nth_text texts r))

  pub under : (r : ℕ) → r < length edges → (j : ℕ) → j < length texts → IsUnder edges flags r j ↔ Lower r (nth_text texts j)
  under r below j inside = grind (arith, lower_place)

  pub vertex_under : (r : ℕ) → r < length edges → (i : ℕ) → i < length edges → IsUnder edges flags r i ↔ Lower r (nth_text texts i)
  vertex_under r below i vertex = under r below i (let fits = h.count in omega arith)

  under_asked : (r : ℕ) → IsWanted flags true r → (k : ℕ) → Gathers (Leads edges) (IsUnder edges flags r) r k → IsNaming edges flags k
  under_asked r gone k p = grind arith

  pub redirects_to : (r : ℕ) (x : Text) → r < length edges → IsWanted flags true r
      → RedirectsTo t Removed (λ a b. IsTrue (is_below a b)) (nth_text texts r) x ↔ HasNumber texts (length texts) (IsRedirect edges flags names r) x
  redirects_to r x below gone = (
    λ n.
        let l = (gathers_label (IsUnder edges flags r) (Lower r) (vertex_under r below) r x below (under_asked r gone)).0 n.0 in
        (l.0, l.1, l.2, (l.3, λ u. n.1 (subst (Lower r) l.2 ((under r below l.0 l.1).0 u)))),
    λ l. (
      (gathers_label (IsUnder edges flags r) (Lower r) (vertex_under r below) r x below (under_asked r gone)).1 (l.0, l.1, l.2, l.3.0),
      λ u. l.3.1 ((under r below l.0 l.1).1 (subst (Lower r) (sym l.2) u)),
    ),
  )

-- a path to one of S begins by an edge to one
first_step : {E : ℕ → ℕ → Type 0} {S : ℕ → Type 0} {a f : ℕ} → Reaches E S a f → S f → (b : ℕ) × E a b × S b
first_step {f} (edge e) s = (f, e, s)
first_step (through {b} e s p) last = (b, e, s)

module _ (t : Table) (removed : Text → Bool) (vs : List Feature) (texts : List Text) (edges names : List (List ℕ)) (flags : List Bool) (stand : StandFor t removed vs texts edges names flags) where
  abbrev R : Text → Type 0
  R v = IsTrue (removed v)

  abbrev h : IsNumbered t R texts edges names flags
  h = stand.numbered

  fits : (i : ℕ) → i < length edges → i < length texts
  fits i lt = let c = h.count in omega (arith, c, lt)

  inside : (i : ℕ) → i < length edges → i < length vs
  inside i lt = subst (λ n. i < n) stand.count lt

  -- the table's own words of the feature in place i
  pub named_by : (i : ℕ) → i < length edges → (x : Text) → place_names vs i x ≡ t.names (nth_text texts i) x
  named_by i lt x = names_at t vs stand.table stand.in_order i (inside i lt) x ∙ ap (λ f. t.names f x) (sym (stand.vertices i (inside i lt)))

  acts_by : (i : ℕ) → i < length edges → (k : Text) → place_action vs i k ≡ t.action (nth_text texts i) k
  acts_by i lt k = actions_at t vs stand.table stand.in_order i (inside i lt) k ∙ ap (λ f. t.action f k) (sym (stand.vertices i (inside i lt)))

  kept_text : (i : ℕ) → i < length edges → IsWanted flags false i → ¬ R (nth_text texts i)
  kept_text i lt kept = (unflagged t R texts edges names flags h i (fits i lt)).0 kept

  -- a kept vertex that passes none names nothing removed, and reaches nothing
  module _ (i : ℕ) (lt : i < length edges) (kept : IsWanted flags false i) where
    no_step : (¬ PassesAny edges flags i) → (b : Text) → R b → ReachesThrough t R (nth_text texts i) b → ⊥
    no_step none b gone path =
        let k = (h.vertex b).0 (h.removed b gone) in
        let r : R (nth_text texts k.0) = subst R (sym k.2) gone in
        let p = (reaches_text t R texts edges names flags h i k.0 lt k.1).1 (subst (λ v. ReachesThrough t R (nth_text texts i) v) (sym k.2) path) in
        none (k.0, ((h.flagged k.0 (fits k.0 k.1)).1 r, p))

    plain_names : (¬ PassesAny edges flags i) → (x : Text) → IsTrue (t.names (nth_text texts i) x) ↔ KeepsName t R (nth_text texts i) x
    plain_names none x = (
      λ y. (
        (nth_text texts i, inl refl, y),
        λ gone. no_step none x gone (edge (record {
          source = (h.vertex (nth_text texts i)).1 (i, lt, refl);
          target = h.removed x gone;
          apart = λ e. kept_text i lt kept (subst R (sym e) gone);
          leads = inl y;
        })),
      ),
      λ n. grind (arith, no_step),
    )

    -- what passes any has an edge to a removed one
    asked : PassesAny edges flags i → IsNaming edges flags i
    asked some = inr (first_step some.1.1 some.1.0)

    saying : (k : Text) (a : Action) → ((b : ℕ) × ((b ≡ i) ⊎ IsPassed edges flags i b) × (place_action vs b k ≡ Some a)) ↔ Says t R (nth_text texts i) k a
    saying k a = (
      λ d. (says t R texts edges names flags h i k a lt).1 (d.0, d.1, sym (acts_by d.0 (of d.0 d.1) k) ∙ d.2),
      λ s. let d = (says t R texts edges names flags h i k a lt).0 s in (d.0, d.1, acts_by d.0 (of d.0 d.1) k ∙ d.2),
    )
      where
        of : (b : ℕ) → (b ≡ i) ⊎ IsPassed edges flags i b → b < length edges
        of b (inl e) = subst (λ n. n < length edges) (sym e) lt
        of b (inr p) = reaches_inside t R texts edges names flags h (IsWanted flags true) R (vertex_flag t R texts edges names flags h) i b lt p.1

    module _ (left : List Feature) (holds : Holds edges names flags texts i vs left)
        (learnt : (e : Text) → IsTrue (place_enabler left i e) ↔ HasNumber texts (length edges) (EnablesThrough edges flags i) e) where
      holds_names : (x : Text) → IsTrue (place_names left i x) ↔ KeepsName t R (nth_text texts i) x
      holds_names x = elim (holds.names) [
        | inl some ↦
            let p = keeps_name t R texts edges names flags h i x lt (asked some.0) in
            (λ y. p.1 ((some.1 x).0 y), λ n. (some.1 x).1 (p.0 n))
        | inr none ↦ grind (arith, none.1 x, named_by i lt x, plain_names none.0 x)
      ]

      holds_enablers : (e : Text) → IsTrue (place_enabler left i e) ↔ IsEnabledBy t R (nth_text texts i) e
      holds_enablers e =
          let is = is_enabled_by t R texts edges names flags h i e lt in
          (λ y. is.1 ((learnt e).0 y), λ k. (learnt e).1 (is.0 k))

      -- so does what stands there by then
      pub is_kept_feature : (w : Feature) → place_deeds left i ≡ Some (deeds_of w) → ((e : Text) → place_enabler left i e ≡ set_has w.enabled_by e) → IsKeptFeature t R (nth_text texts i) w
      is_kept_feature w does by = record {
        names = λ x. subst (λ b. IsTrue b ↔ KeepsName t R (nth_text texts i) x) (ap (λ o. option_map_or (λ d. set_has d.0 x) o false) does) (holds_names x);
        enabled_by = λ e. subst (λ b. IsTrue b ↔ IsEnabledBy t R (nth_text texts i) e) (by e) (holds_enablers e);
        action = λ k. subst (IsJoin (Says t R (nth_text texts i) k)) (ap (λ o. option_map_or (λ d. action_at d.1 k) o None) does) (join_alike (saying k) (place_action left i k) (holds.actions k));
      }

-- a map that has each kept feature under its name, and nothing else, is resolved
module _ {S : Type 0} (t : Table) (removed : Text → Bool) (m : HashMap (Bor Text) Feature S)
    (kept : (f : Text) → IsKept t (λ v. IsTrue (removed v)) f → IsSomeAnd (value_at m f) (IsKeptFeature t (λ v. IsTrue (removed v)) f))
    (gone : (f : Text) → IsTrue (removed f) → value_at m f ≡ None)
    (missing : (f : Text) → ¬ IsTrue (t.has f) → value_at m f ≡ None) where
  -- what stands under the name of a kept feature
  abbrev Here : Text → Type 0
  Here f = (v : Feature) × (value_at m f ≡ Some v) × IsKeptFeature t (λ v. IsTrue (removed v)) f v

  here : (f : Text) → IsKept t (λ v. IsTrue (removed v)) f → Here f
  here f k = go (value_at m f) refl (kept f k)
    where
      go : (o : Option Feature) → value_at m f ≡ o → IsSomeAnd o (IsKeptFeature t (λ v. IsTrue (removed v)) f) → Here f
      go None e h = absurd h
      go (Some v) e h = (v, e, h)

  none_there : (f : Text) → value_at m f ≡ None → ¬ IsTrue (is_some (value_at m f))
  none_there f e y = false≢true (sym (ap is_some e) ∙ y)

  is_kept : (f : Text) → IsTrue (is_some (value_at m f)) → IsKept t (λ v. IsTrue (removed v)) f
  is_kept f y = grind (arith, cases_Bool, none_there)

  pub resolved_is : IsResolved t (λ v. IsTrue (removed v)) (resolution_of m)
  resolved_is = grind (arith, is_kept, here)
