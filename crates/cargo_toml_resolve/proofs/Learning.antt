-- Enablers that features learn, place by place, and what is kept where no feature is removed.
use Rattle.cargo_toml_resolve.proofs.Cited.{Among, AreInOrder, AreKept, ArePassedOn, AreSameButEnablers, AreTable, Ascend, BTreeSet, Bool, Bor, DepAction, Edge, Feature, GainEnabler, HashMap, HaveNoEnablers, IfOk, IfSome, IsPlain, IsTrue, IsUnremoved, Leader, LeaderBelow, LeadsAt, LeadsTo, LearnBy, LearnEach, List, None, Option, RedirectsTo, Result, Some, Table, Text, [], action_at}
use Rattle.cargo_toml_resolve.proofs.Cited.{action_of, ap, arith, btree_map_len, btree_set_len, but_enablers, bytes_eq, bytes_eq-Decides, cases_eq, deeds_of, false, false_from_ne_true, false≢true, feature_at, get_or, inl, inr, is_at, is_below, is_some, length, length-map, lookup, map, map-set_same, names_of, nat_cmp, none_ascend, none_in}
use Rattle.cargo_toml_resolve.proofs.Cited.{nth_text, option_map, option_map_or, or_cases, or_left, or_right, place_enabler, refl, resolution_among, resolution_of, resolved_unremoved, said_of, set, set_has, slice_cmp, slice_get, slice_get_read, subst, sym, texts_now, true, value_at, with_said, ℕ, ◌+◌, ◌<◌, ◌||◌, ◌↔◌, ◌∙◌, ◌∷◌, ◌≡◌, ◌≢◌, ◌⊎◌}
use Rattle.cargo_toml_resolve.proofs.InPlace.{edge_at, found_at, has_place, no_enabler, alike_found, alike_len, alike_named, alike_place, names_alike, set_here, set_others}

-- first these texts, then those
pub then_each : (A B C : ℕ → Text → Type 0) (vs ws us : List Feature) → length ws ≡ length vs → ((y : ℕ) (e : Text) → y < length vs → C y e ↔ (A y e ⊎ B y e))
    → LearnEach A vs ws → LearnEach B ws us → LearnEach C vs us
then_each A B C vs ws us len both a b y e lt =
    let c = both y e lt in
    let first = a y e lt in
    let last = b y e (subst (λ n. y < n) (sym len) lt) in (λ t. grind arith, λ s. grind arith)

pub then_learn : (A B C : ℕ → Text → Type 0) (vs ws us : List Feature) → ((y : ℕ) (e : Text) → y < length vs → C y e ↔ (A y e ⊎ B y e)) → LearnBy A vs ws → LearnBy B ws us → LearnBy C vs us
then_learn A B C vs ws us both a b = record { same = b.same ∙ a.same; learn = then_each A B C vs ws us (alike_len but_enablers vs ws a.same) both a.learn b.learn }

pub nobody_learns : (By : ℕ → Text → Type 0) (vs : List Feature) → ((y : ℕ) (e : Text) → ¬ By y e) → LearnBy By vs vs
nobody_learns By vs none = record { same = refl; learn = λ y e lt. (λ h. inl h, elim [ inl h ↦ h | inr b ↦ absurd (none y e b) ]) }

-- the feature in one place learns of the source
pub one_learns : (vs : List Feature) (i : ℕ) (source : Text) (v : Feature) (by : BTreeSet (Bor Text)) → i < length vs → v ≡ get_or vs i v
    → ((x : Text) → IsTrue (set_has by x) ↔ (IsTrue (set_has v.enabled_by x) ⊎ (x ≡ source))) → GainEnabler (λ y. y ≡ i) source vs (set vs i (record v { enabled_by = by }))
one_learns vs i source v by lt read gains = record {
  same = map-set_same (with_said but_enablers) vs i (record v { enabled_by = by }) v (ap (with_said but_enablers) read);
  learn = λ y e below. grind (arith, cases_eq y i, set_here vs i (record v { enabled_by = by }) lt, set_others vs i y (record v { enabled_by = by }), slice_get_read vs (length vs) i v refl lt read, gains e);
}

-- a set gained the source
pub text_gained : (old new : BTreeSet (Bor Text)) (source : Text) → ((x : Text) → set_has new x ≡ (set_has old x || bytes_eq x source))
    → (x : Text) → IsTrue (set_has new x) ↔ (IsTrue (set_has old x) ⊎ (x ≡ source))
text_gained old new source h x = grind (arith, or_cases, bytes_eq-Decides x source, or_left, or_right)

-- what names nothing and acts on nothing leads nowhere
pub no_keys : (ks : List (Bor Text)) → length ks ≡ 0 → ks ≡ []
no_keys [] e = refl
no_keys (k ∷ ks) e = absurd (omega arith)

pub led_nowhere : (v : Feature) → btree_set_len v.enables_features ≡ 0 → btree_map_len v.enables_deps ≡ 0 → (x : Text) → ¬ LeadsTo v x
led_nowhere v names actions x l = elim l [
  | inl n ↦ absurd (false≢true (sym (none_in v.enables_features (no_keys v.enables_features.keys names) x) ∙ n))
  | inr p ↦ no_action v.enables_deps.entries actions x p
]
  where
    no_action : (es : List (Bor Text × DepAction)) → length es ≡ 0 → (k : Text) → IsPlain (option_map action_of (lookup (is_at (λ q. slice_cmp nat_cmp k q.now)) es)) → ⊥
    no_action [] none k p = p
    no_action (e ∷ es) none k p = absurd (omega arith)

-- what is said of a feature holds in its place
pub leads_not_at : (vs : List Feature) (j i : ℕ) (v : Feature) (x : Text) → j ≡ i → i < length vs → v ≡ get_or vs i v → ¬ LeadsTo v x → ¬ LeadsAt vs j x
leads_not_at vs j i v x at lt read none =
    subst (λ k. ¬ LeadsAt vs k x) (sym at) (subst (λ o. ¬ (IsTrue (option_map_or (λ d. set_has d.0 x) (option_map deeds_of o) false) ⊎ IsPlain (option_map_or (λ d. action_at d.1 x) (option_map deeds_of o) None))) (sym (slice_get_read vs (length vs) i v refl lt read)) none)

-- where none leads anywhere, all have learnt
pub all_learnt : (vs : List Feature) → ((j : ℕ) (x : Text) → j < length vs → ¬ LeadsAt vs j x) → LearnBy (LeaderBelow vs (length vs)) vs vs
all_learnt vs none = nobody_learns (LeaderBelow vs (length vs)) vs (λ y e l. none l.0 (nth_text (names_of vs) y) l.1 l.2.2)

-- the first n features have told what they lead to
abbrev pub HaveLearnt : ℕ → List Feature → List Feature → Type 0
HaveLearnt n old new = LearnBy (LeaderBelow old n) old new

pub none_learnt : (vs : List Feature) → HaveLearnt 0 vs vs
none_learnt vs = nobody_learns (LeaderBelow vs 0) vs (λ y e l. let lt = l.1 in omega (arith, lt))

-- as many keys as features
pub as_many : (keys : List (Bor Text)) (vs : List Feature) → texts_now keys ≡ names_of vs → length keys ≡ length vs
as_many keys vs are = sym (length-map keys (λ (t : Bor Text). t.now)) ∙ ap length are ∙ length-map vs (λ (v : Feature). v.key.now)

-- then the next, of which the row tells where it leads
pub one_more_learnt : (n : ℕ) (keys : List (Bor Text)) (vs ws us : List Feature) (cleared row given : List ℕ) (u : Feature) (source : Text) → n < length keys → texts_now keys ≡ names_of vs
    → cleared ≡ [] → given ≡ row → u ≡ get_or ws n u → nth_text (texts_now keys) n ≡ source
    → ((x : ℕ) → Among row x ↔ (Among cleared x ⊎ ((x < length keys) × (x ≢ n) × LeadsTo u (nth_text (texts_now keys) x))))
    → HaveLearnt n vs ws → GainEnabler (Among given) source ws us → HaveLearnt (n + 1) vs us
one_more_learnt n keys vs ws us cleared row given u source lt are clear gave read key rows h more =
    then_learn (LeaderBelow vs n) (λ y e. (e ≡ source) × Among given y) (LeaderBelow vs (n + 1)) vs ws us (λ y e below. both y e below) h more
  where
    long : length keys ≡ length vs
    long = as_many keys vs are

    there : slice_get ws n ≡ Some u
    there = slice_get_read ws (length ws) n u refl (omega (arith, lt, long, alike_len but_enablers vs ws h.same)) read

    led : (x : Text) → LeadsTo u x ↔ LeadsAt vs n x
    led x = subst (λ o. LeadsTo u x ↔ (IsTrue (option_map_or (λ d. set_has d.0 x) o false) ⊎ IsPlain (option_map_or (λ d. action_at d.1 x) o None)))
        (sym (ap (option_map deeds_of) there) ∙ alike_place but_enablers vs ws h.same (λ p. p.1.0) n) (λ l. l, λ l. l)

    name : (y : ℕ) → nth_text (names_of vs) y ≡ nth_text (texts_now keys) y
    name y = ap (λ ks. nth_text ks y) (sym are)

    both : (y : ℕ) (e : Text) → y < length vs → LeaderBelow vs (n + 1) y e ↔ (LeaderBelow vs n y e ⊎ ((e ≡ source) × Among given y))
    both y e below = (
      λ l. elim (cases_eq l.0 n) [
        | inl at ↦ inr (
          sym l.2.1 ∙ ap (nth_text (names_of vs)) at ∙ name n ∙ key,
          subst (λ r. Among r y) (sym gave) ((rows y).1 (inr (
            omega (arith, below, long),
            subst (λ j. y ≢ j) at l.2.0,
            subst (LeadsTo u) (name y) ((led (nth_text (names_of vs) y)).1 (subst (λ j. LeadsAt vs j (nth_text (names_of vs) y)) at l.2.2)),
          ))),
        )
        | inr ne ↦ (let sooner = l.1 in inl (l.0, omega (arith, sooner, ne), l.2))
      ],
      elim [
        | inl h ↦ still h.0 h.1 h.2
        | inr p ↦ from (subst (λ r. Among r y) gave p.1) p.0
      ],
    )
      where
        still : (j : ℕ) → j < n → Leader vs j y e → LeaderBelow vs (n + 1) y e
        still j lt l = (j, omega (arith, lt), l)

        from : Among row y → e ≡ source → LeaderBelow vs (n + 1) y e
        from a is = elim ((rows y).0 a) [
          | inl c ↦ absurd (subst (λ r. Among r y) clear c)
          | inr q ↦ (n, omega arith, (q.1, name n ∙ key ∙ sym is, (led (nth_text (names_of vs) y)).0 (subst (LeadsTo u) (sym (name y)) q.2)))
        ]

-- what doesn't speak of enablers still holds
module _ (vs ws : List Feature) (same : AreSameButEnablers vs ws) where
  pub in_order_still : AreInOrder vs → AreInOrder ws
  in_order_still up = subst Ascend (sym (names_alike but_enablers vs ws same)) up

  pub kept_still : {S : Type 0} (t : Table) (removed : Text → Bool) (features : HashMap (Bor Text) Feature S) (hidden : HashMap (Bor Text) (BTreeSet (Bor Text)) S)
      → AreKept t removed ws features hidden → AreKept t removed vs features hidden
  kept_still t removed features hidden l = record {
    resolved = l.resolved;
    own = λ f. subst (λ o. IfSome (value_at features f) (λ w. o ≡ Some (said_of w))) (alike_found but_enablers vs ws same (λ p. p.0) f) (l.own f);
    bins = subst (λ own. ArePassedOn t (λ r. IsTrue (removed r)) own (λ f. option_map_or (λ v. map (λ b. b.now) v.required_by_bins.items) (value_at features f) []))
        (λ i f. alike_named but_enablers vs ws same (λ p. map (λ b. b.now) p.1.1.items) [] f i) l.bins;
    redirected = l.redirected;
    redirects = l.redirects;
  }

  -- they still make the table
  pub table_still : (t : Table) → AreTable t vs → AreTable t ws
  table_still t made = record {
    has = λ f. some (feature_at ws f) ∙ alike_named but_enablers vs ws same (λ p. true) false f ∙ sym (some (feature_at vs f)) ∙ made.has f;
    names = λ f x. alike_named but_enablers vs ws same (λ p. set_has p.1.0.0 x) false f ∙ made.names f x;
    action = λ f k. alike_named but_enablers vs ws same (λ p. action_at p.1.0.1 k) None f ∙ made.action f k;
  }
    where
      some : (o : Option Feature) → is_some o ≡ option_map_or (λ (v : Feature). true) o false
      some o = grind arith

-- once all have, what they have learnt are the sources of edges
module _ (t : Table) (vs ws : List Feature) (up : AreInOrder vs) (none : HaveNoEnablers vs) (made : AreTable t vs) (h : HaveLearnt (length vs) vs ws) where
  abbrev name : ℕ → Text
  name i = nth_text (names_of vs) i

  -- by its place
  enabled_at : (i : ℕ) → i < length vs → (e : Text) → (resolution_among ws).enabled_by (name i) e ≡ place_enabler ws i e
  enabled_at i lt e = ap (λ o. option_map_or (λ v. set_has v.enabled_by e) o false)
      (ap (λ ks. feature_at ws (nth_text ks i)) (sym (names_alike but_enablers vs ws h.same)) ∙ found_at ws (in_order_still vs ws h.same up) i (omega (arith, lt, alike_len but_enablers vs ws h.same)))

  into_edge : (f e : Text) → IsTrue ((resolution_among ws).enabled_by f e) → Edge t e f
  into_edge f e y =
      let i = (has_place t vs made up f).0 (sym ((table_still vs ws h.same t made).has f) ∙ there (feature_at ws f) y) in
      elim ((h.learn i.0 e i.1).0 (sym (enabled_at i.0 i.1 e) ∙ ap (λ n. (resolution_among ws).enabled_by n e) i.2 ∙ y)) [
        | inl o ↦ absurd (no_enabler vs up none i.0 i.1 e o)
        | inr l ↦ subst (Edge t e) i.2 (subst (λ n. Edge t n (name i.0)) l.2.1 ((edge_at t vs made up l.0 i.0 l.1 i.1).1 (l.2.0, l.2.2)))
      ]
    where
      there : (o : Option Feature) → IsTrue (option_map_or (λ v. set_has v.enabled_by e) o false) → is_some o ≡ true
      there o y = grind arith

  from_edge : (f e : Text) → Edge t e f → IsTrue ((resolution_among ws).enabled_by f e)
  from_edge f e d =
      let i = (has_place t vs made up f).0 d.target in
      let j = (has_place t vs made up e).0 d.source in
      let p = (edge_at t vs made up j.0 i.0 j.1 i.1).0 (subst (λ n. Edge t n (name i.0)) (sym j.2) (subst (Edge t e) (sym i.2) d)) in
      sym (ap (λ n. (resolution_among ws).enabled_by n e) i.2) ∙ enabled_at i.0 i.1 e ∙ (h.learn i.0 e i.1).1 (inr (j.0, j.1, (p.0, j.2, p.1)))

  pub unremoved : IsUnremoved t (resolution_among ws)
  unremoved =
      let still = table_still vs ws h.same t made in
      record { has = still.has; names = still.names; action = still.action; enabled_by = λ f e. (into_edge f e, from_edge f e) }

-- a map that has under each name the feature of that name holds what they hold
module _ {S : Type 0} (vs : List Feature) (m : HashMap (Bor Text) Feature S) (same : (f : Text) → value_at m f ≡ feature_at vs f) where
  unremoved_by : (t : Table) → IsUnremoved t (resolution_among vs) → IsUnremoved t (resolution_of m)
  unremoved_by t h = grind arith

  pub all_kept : (t : Table) (removed : Text → Bool) (hidden : HashMap (Bor Text) (BTreeSet (Bor Text)) S) → ((r : Text) → value_at hidden r ≡ None) →
      ((r : Text) → ¬ IsTrue (removed r)) → IsUnremoved t (resolution_among vs) → AreKept t removed vs m hidden
  all_kept t removed hidden empty none h = record {
    resolved = resolved_unremoved t (resolution_of m) (λ f. IsTrue (removed f)) none (unremoved_by t h);
    own = λ f. own_at f (value_at m f) (same f);
    bins = grind (arith, none_ascend, same);
    redirected = λ r. ap is_some (empty r) ∙ sym (false_from_ne_true (removed r) (none r));
    redirects = λ r. subst (λ o. IfSome o (λ names. (x : Text) → IsTrue (set_has names x) ↔ RedirectsTo t (λ s. IsTrue (removed s)) (λ a b. IsTrue (is_below a b)) r x)) (sym (empty r)) tt;
  }
    where
      own_at : (f : Text) (o : Option Feature) → o ≡ feature_at vs f → IfSome o (λ w. option_map said_of (feature_at vs f) ≡ Some (said_of w))
      own_at f None e = tt
      own_at f (Some w) e = ap (option_map said_of) (sym e)

-- a weaker fact of one result
pub if_ok_weaker : {X Y : Type 0} (r : Result X Y) (A Q : X → Type 0) → ((x : X) → A x → Q x) → IfOk r A → IfOk r Q
if_ok_weaker r A Q f a = grind arith
