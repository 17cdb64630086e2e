-- One feature of a list takes over what those that it passes do.
use Rattle.cargo_toml_resolve.proofs.Cited.{Action, AllTakeOver, Among, BTreeMap, BTreeSet, Bool, Bor, ComesToHold, DepAction, DoesAt, EnablesThrough, Feature, GainEnabler, HasNumber, HasTextsOf, IsJoin, IsPassed, IsWanted, KeepsLabel, Leads, List, None, Option, PassesAny, Reaches, Some, TakesOver, Text, [], action_at, ap, arith, but_deeds, but_enablers, cases_Bool, cases_eq, deeds_of, edge, false, false≢true, get_or, inl, inr}
use Rattle.cargo_toml_resolve.proofs.Cited.{join_alike, join_halves, join_one, join_option, length, length-set, map-set_same, nth_text, option_map, option_map_or, place_action, place_deeds, place_enabler, refl, set, set_has, slice_get, slice_get_read, subst, sym, take, texts_now, through, true, with_said, ℕ, ◌+◌, ◌<◌, ◌↔◌, ◌∙◌, ◌≡◌, ◌≢◌, ◌≤◌, ◌⊎◌}
use Rattle.cargo_toml_resolve.proofs.InPlace.{set_here, set_others, alike_at, alike_len, alike_place, still_alike}
use Rattle.cargo_toml_resolve.proofs.{Steps.among_more, Learning.then_each, RowsInOrder.none_among}
use Rattle.std.proofs.lemmas.List.{get_or-map}
use Rattle.cargo_toml_resolve.specs.Holding.{Holds}

-- what stands in a place does
pub acts_there : (vs : List Feature) (b : ℕ) (v : Feature) → slice_get vs b ≡ Some v → (k : Text) → place_action vs b k ≡ action_at v.enables_deps k
acts_there vs b v is k = ap (λ o. option_map_or (λ d. action_at d.1 k) (option_map deeds_of o) None) is

-- its map of actions is taken out, the others' are joined to it, and it is put back with other names
module _ (vs : List Feature) (i : ℕ) (passed : List ℕ) (apart : ¬ Among passed i) (v w : Feature) (lt : i < length vs) (read : v ≡ get_or vs i v)
    (empty first own : BTreeMap (Bor Text) DepAction) (names : BTreeSet (Bor Text)) (seen : List Feature) (was : first ≡ v.enables_deps) (sees : seen ≡ set vs i (record v { enables_deps = empty }))
    (again : w ≡ get_or (set vs i (record v { enables_deps = empty })) i w) (joined : (k : Text) → IsJoin (λ a. (action_at first k ≡ Some a) ⊎ DoesAt seen (Among passed) k a) (action_at own k)) where
  abbrev emptied : Feature
  emptied = record v { enables_deps = empty }

  abbrev mid : List Feature
  mid = set vs i emptied

  abbrev put_back : Feature
  put_back = record w { enables_deps = own; enables_features = names }

  abbrev new : List Feature
  new = set mid i put_back

  inside : i < length mid
  inside = subst (λ n. i < n) (sym (length-set vs i emptied)) lt

  here : place_deeds new i ≡ Some (names, own)
  here = ap (option_map deeds_of) (set_here mid i put_back inside)

  pub comes_to_hold : ComesToHold i passed names vs new
  comes_to_hold = record {
    same = map-set_same (with_said but_deeds) mid i put_back w (ap (with_said but_deeds) again)
        ∙ map-set_same (with_said but_deeds) vs i emptied v (ap (with_said but_deeds) read);
    names = λ x. ap (λ o. option_map_or (λ d. set_has d.0 x) o false) here;
    actions = λ k. subst (IsJoin (DoesAt vs (λ b. (b ≡ i) ⊎ Among passed b) k)) (sym (ap (λ o. option_map_or (λ d. action_at d.1 k) o None) here)) (join_alike (same k) (action_at own k) (joined k));
    others = λ j ne. ap (option_map deeds_of) (set_others mid i j put_back ne ∙ set_others vs i j emptied ne);
  }
    where
      did : (k : Text) → place_action vs i k ≡ action_at first k
      did k = acts_there vs i v (slice_get_read vs (length vs) i v refl lt read) k ∙ ap (λ m. action_at m k) (sym was)

      there : (k : Text) (b : ℕ) → Among passed b → place_action seen b k ≡ place_action vs b k
      there k b p = ap (λ us. place_action us b k) sees ∙ ap (λ o. option_map_or (λ d. action_at d.1 k) (option_map deeds_of o) None) (set_others vs i b emptied (λ e. apart (subst (Among passed) e p)))

      same : (k : Text) (a : Action) → ((action_at first k ≡ Some a) ⊎ DoesAt seen (Among passed) k a) ↔ DoesAt vs (λ b. (b ≡ i) ⊎ Among passed b) k a
      same k a = grind (arith, did k, there k)

module _ (vs : List Feature) (passed : List ℕ) (k : Text) (first : Option Action) where
  abbrev Does : List ℕ → Action → Type 0
  Does places a = (first ≡ Some a) ⊎ DoesAt vs (Among places) k a

  pub begin_join : IsJoin (Does []) first
  begin_join = join_alike (λ a. (inl, elim [ inl e ↦ e | inr d ↦ absurd d.1 ])) first (join_one first)

  pub next_join : (i : ℕ) (v : Feature) (own own' : Option Action) → i < length passed → slice_get vs (get_or passed i 0) ≡ Some v →
      IsJoin (Does (take i passed)) own → own' ≡ join_option own (action_at v.enables_deps k) → IsJoin (Does (take (i + 1) passed)) own'
  next_join i v own own' lt is before now =
      subst (IsJoin (Does (take (i + 1) passed))) (sym now) (join_halves halves own (action_at v.enables_deps k) before (join_one (action_at v.enables_deps k)))
    where
      halves : (a : Action) → Does (take (i + 1) passed) a ↔ (Does (take i passed) a ⊎ (action_at v.enables_deps k ≡ Some a))
      halves a = grind (arith, among_more, acts_there vs (get_or passed i 0) v is k)

-- the text in a place, as it is read there
pub source_is : (texts : List (Bor Text)) (i p : ℕ) (source : Bor Text) → i < length texts → p ≡ i → source ≡ get_or texts p source → source.now ≡ nth_text (texts_now texts) i
source_is texts i p source lt at read = grind (arith, get_or-map)

-- a vertex that leads to no removed one passes none
pub passes_none : (edges : List (List ℕ)) (flags : List Bool) (a : ℕ) → ¬ ((x : ℕ) × Leads edges a x × IsWanted flags true x) → (b : ℕ) → Among [] b ↔ IsPassed edges flags a b
passes_none edges flags a clean b = grind arith

module _ (edges labels : List (List ℕ)) (flags : List Bool) (texts : List Text) where
  -- one kept feature, which passes these
  module _ (a : ℕ) (kept : IsWanted flags false a) (passed : List ℕ) (is : (b : ℕ) → Among passed b ↔ IsPassed edges flags a b) where
    none : length passed ≡ 0 → (b : ℕ) → ¬ IsPassed edges flags a b
    none empty b p = none_among passed empty b ((is b).1 p)

    -- where it passes none
    pub directly : length passed ≡ 0 → (f : ℕ) → Leads edges a f ↔ (IsWanted flags false f × Reaches (Leads edges) (IsWanted flags true) a f)
    directly empty f = (
      λ l. (elim (cases_Bool (get_or flags f false)) [ inl on ↦ absurd (none empty f (on, edge l)) | inr off ↦ off ], edge l),
      λ p. only f p.1,
    )
      where
        only : (f : ℕ) → Reaches (Leads edges) (IsWanted flags true) a f → Leads edges a f
        only f (edge e) = e
        only f (through {b = c} e s p) = absurd (none empty c (s, edge e))

    -- the kept ones that it enables have learnt of it
    module _ (Targets : ℕ → Type 0) (t : (f : ℕ) → Targets f ↔ (IsWanted flags false f × Reaches (Leads edges) (IsWanted flags true) a f)) (vs ws : List Feature) (v : GainEnabler Targets (nth_text texts a) vs ws) where
      deeds : (j : ℕ) → place_deeds ws j ≡ place_deeds vs j
      deeds = alike_place but_enablers vs ws v.same (λ p. p.1.0)

      enables : (f : ℕ) → Targets f ↔ (IsWanted flags false f × EnablesThrough edges flags f a)
      enables f = (λ i. let g = (t f).0 i in (g.0, (kept, g.1)), λ p. (t f).1 (p.0, p.1.1))

      -- it passes none
      pub stays_as_it_is : length passed ≡ 0 → TakesOver edges labels flags texts a vs ws
      stays_as_it_is empty = record {
        same = still_alike but_enablers vs ws v.same (λ p. p.1);
        here = record {
          names = inr ((λ any. none empty any.0 any.1), λ x. ap (λ o. option_map_or (λ d. set_has d.0 x) o false) (deeds a));
          actions = λ k. subst (IsJoin (DoesAt vs (λ b. (b ≡ a) ⊎ IsPassed edges flags a b) k)) (sym (acts a k)) (join_alike (λ e. alone k e) (place_action vs a k) (join_one (place_action vs a k)));
        };
        others = λ j ne. deeds j;
        learn = λ y e lt. let l = v.learn y e lt in grind (arith, enables y);
      }
        where
          acts : (b : ℕ) (k : Text) → place_action ws b k ≡ place_action vs b k
          acts b k = ap (λ o. option_map_or (λ d. action_at d.1 k) o None) (deeds b)

          alone : (k : Text) (e : Action) → (place_action vs a k ≡ Some e) ↔ DoesAt vs (λ b. (b ≡ a) ⊎ IsPassed edges flags a b) k e
          alone k e = grind (arith, none empty)

      -- it passes some, and comes to hold what was found for it
      module _ (any : PassesAny edges flags a) (named : List ℕ) (n : (x : ℕ) → Among named x ↔ KeepsLabel edges flags labels a x) (set : BTreeSet (Bor Text)) (has : HasTextsOf texts named set)
          (us : List Feature) (c : ComesToHold a passed set ws us) where
        learnt : (y : ℕ) (e : Text) → place_enabler us y e ≡ place_enabler ws y e
        learnt y e = alike_at but_deeds ws us c.same (λ p. set_has p.1.1 e) false y

        pub takes_over : TakesOver edges labels flags texts a vs us
        takes_over = record {
          same = still_alike but_deeds ws us c.same (λ p. p.0) ∙ still_alike but_enablers vs ws v.same (λ p. p.1);
          here = record {
            names = inl (any, λ x. grind (arith, c.names x, has x, n));
            actions = λ k. join_alike (λ e. acts k e) (place_action us a k) (c.actions k);
          };
          others = λ j ne. c.others j ne ∙ deeds j;
          learn = λ y e lt. let l = v.learn y e lt in grind (arith, enables y, learnt y e);
        }
          where
            acts : (k : Text) (e : Action) → DoesAt ws (λ b. (b ≡ a) ⊎ Among passed b) k e ↔ DoesAt vs (λ b. (b ≡ a) ⊎ IsPassed edges flags a b) k e
            acts k e = grind (arith, is, deeds)

  -- of those below n, which enable the feature in place y
  abbrev By : ℕ → ℕ → Text → Type 0
  By n y e = IsWanted flags false y × HasNumber texts n (EnablesThrough edges flags y) e

  sooner : (n y : ℕ) (e : Text) → By n y e → By (n + 1) y e
  sooner n y e b = (b.0, (b.1.0, (let lt = b.1.1 in omega (arith, lt)), b.1.2, b.1.3))

  earlier : (n y : ℕ) (e : Text) (b : By (n + 1) y e) → b.1.0 ≢ n → By n y e
  earlier n y e b ne = (b.0, (b.1.0, (let lt = b.1.1 in omega (arith, lt, ne)), b.1.2, b.1.3))

  pub none_take_over : (vs : List Feature) → AllTakeOver edges labels flags texts 0 vs vs
  none_take_over vs = record {
    same = refl;
    holds = λ i lt. absurd (omega (arith, lt));
    rest = λ i r. refl;
    learn = λ y e lt. (λ h. inl h, elim [ inl h ↦ h | inr b ↦ absurd (let no = b.1.1 in omega (arith, no)) ]);
  }

  module _ (n : ℕ) (vs ws : List Feature) (v : AllTakeOver edges labels flags texts n vs ws) where
    later : (i : ℕ) → (n + 1 ≤ i) ⊎ IsWanted flags true i → (n ≤ i) ⊎ IsWanted flags true i
    later i r = elim r [ inl le ↦ inl (omega (arith, le)) | inr gone ↦ inr gone ]

    -- the next one is removed
    pub skipped : IsWanted flags true n → AllTakeOver edges labels flags texts (n + 1) vs ws
    skipped gone = record {
      same = v.same;
      holds = λ i lt kept. elim (cases_eq i n) [
        | inl e ↦ absurd (false≢true (sym kept ∙ ap (λ z. get_or flags z false) e ∙ gone))
        | inr ne ↦ v.holds i (omega (arith, lt, ne)) kept
      ];
      rest = λ i r. v.rest i (later i r);
      learn = λ y e lt. let l = v.learn y e lt in (
        λ i. elim (l.0 i) [ inl o ↦ inl o | inr b ↦ inr (sooner n y e b) ],
        λ i. l.1 (elim i [ inl o ↦ inl o | inr b ↦ inr (earlier n y e b (λ at. false≢true (sym b.1.3.0 ∙ ap (λ z. get_or flags z false) at ∙ gone))) ]),
      );
    }

    -- the next one is kept
    pub one_more_takes_over : IsWanted flags false n → (us : List Feature) → TakesOver edges labels flags texts n ws us → AllTakeOver edges labels flags texts (n + 1) vs us
    one_more_takes_over kept us w = record {
      same = w.same ∙ v.same;
      holds = λ i lt k. elim (cases_eq i n) [
        | inl e ↦ subst (λ j. Holds edges labels flags texts j vs us) (sym e) (record {
          names = elim (w.here.names) [ inl o ↦ inl o | inr o ↦ inr (o.0, λ x. o.1 x ∙ ap (λ d. option_map_or (λ c. set_has c.0 x) d false) (v.rest n (inl (omega arith)))) ];
          actions = λ k. join_alike (λ a. acts k a) (place_action us n k) (w.here.actions k);
        })
        | inr ne ↦ (let h = v.holds i (omega (arith, lt, ne)) k in let o = w.others i ne in record { names = grind arith; actions = grind arith })
      ];
      rest = λ i r. w.others i (apart i r) ∙ v.rest i (later i r);
      learn = then_each (By n) (λ y e. (e ≡ nth_text texts n) × (IsWanted flags false y × EnablesThrough edges flags y n)) (By (n + 1)) vs ws us (alike_len (λ (u : Feature). u.required_by_bins) vs ws v.same) (λ y e below. (
        λ b. grind (arith, cases_eq, earlier),
        λ s. grind (arith, sooner),
      )) v.learn w.learn;
    }
      where
        apart : (i : ℕ) → (n + 1 ≤ i) ⊎ IsWanted flags true i → i ≢ n
        apart i r = grind arith

        acts : (k : Text) (a : Action) → DoesAt ws (λ b. (b ≡ n) ⊎ IsPassed edges flags n b) k a ↔ DoesAt vs (λ b. (b ≡ n) ⊎ IsPassed edges flags n b) k a
        acts k a = grind (arith, v.rest)
