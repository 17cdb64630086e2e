-- Binaries that are put into the lists of features, and that removed places pass on, turn after turn.
use Rattle.cargo_toml_resolve.proofs.Cited.{Among, AreKnown, BTreeSet, Bool, Bor, Feature, IsTrue, IsWanted, Knows, Leads, List, MayKnow, OnOk, Option, Puts, Result, Some, Text, [], among-true, ap, arith, bins_of, btree_set_len, but_bins, bytes_eq, bytes_eq-Decides, cases_Bool, cases_eq, cond, eq-eqb, eqb-true, false, false≢true, get_or, if◌then◌else◌, inl, inr, length, length-set, list_any, list_any-append, lists_text, map, map-set_same}
use Rattle.cargo_toml_resolve.proofs.Cited.{map_more, nat_eq, nat_tests, not, option_map_or, or-false, or_cases, or_left, or_right, passed_below, passed_from, put_each, put_puts, refl, same_Some, set, set_has, slice_get, slice_get_read, slice_index_or, subst, suc, sym, take, texts_now, true, with_said, zero, zip, ℕ, ◌&&◌, ◌++◌, ◌+◌, ◌<◌, ◌||◌, ◌↔◌, ◌∙◌, ◌∷◌, ◌≡◌, ◌≤◌, ◌⊎◌}
use Rattle.cargo_toml_resolve.proofs.InPlace.{alike_len, set_here, set_others}

-- a test tells whether a number stands in a list
pub stands_true : (xs : List ℕ) (y : ℕ) → Among xs y → list_any (nat_eq y) xs ≡ true
stands_true [] y i = absurd i
stands_true (x ∷ xs) y (inl e) = or_left (nat_eq y x) _ (eq-eqb y x e)
stands_true (x ∷ xs) y (inr i) = or_right (nat_eq y x) _ (stands_true xs y i)

pub true_stands : (xs : List ℕ) (y : ℕ) → list_any (nat_eq y) xs ≡ true → Among xs y
true_stands [] y e = absurd (false≢true e)
true_stands (x ∷ xs) y e = elim (or_cases (nat_eq y x) (list_any (nat_eq y) xs) e) [ inl i ↦ inl (eqb-true y x i) | inr i ↦ inr (true_stands xs y i) ]

stands_false : (xs : List ℕ) (y : ℕ) → ¬ Among xs y → list_any (nat_eq y) xs ≡ false
stands_false xs y n = elim (cases_Bool (list_any (nat_eq y) xs)) [ inl t ↦ absurd (n (true_stands xs y t)) | inr f ↦ f ]

-- what passes none, though it is removed, has no binary
no_bins : (b : Bool) (bins : List (Bor Text)) → (b && not (nat_eq (length bins) 0)) ≡ false → b ≡ true → map (λ x. x.now) bins ≡ []
no_bins false bins none on = absurd (false≢true on)
no_bins true [] none on = refl
no_bins true (x ∷ bins) none on = let some : not (nat_eq (length (x ∷ bins)) 0) ≡ true = grind (arith, nat_tests) in absurd (false≢true (sym none ∙ some))

either_off : (a b : Bool) → (a || b) ≡ false → (a ≡ false) × (b ≡ false)
either_off a b off = grind arith

-- where the test of every feature with its flag fails, no removed place has a binary
pub none_had : (vs : List Feature) (flags : List Bool) → length vs ≤ length flags → list_any (λ (p : Feature × Bool). p.1 && not (nat_eq (length p.0.required_by_bins.items) 0)) (zip vs flags) ≡ false
    → (r : ℕ) → r < length vs → IsWanted flags true r → bins_of vs r ≡ []
none_had [] flags long none r lt on = absurd (omega (arith, lt))
none_had (v ∷ vs) [] long none r lt on = absurd (omega (arith, long))
none_had (v ∷ vs) (b ∷ flags) long none zero lt on = no_bins b v.required_by_bins.items (either_off _ _ none).0 on
none_had (v ∷ vs) (b ∷ flags) long none (suc r) lt on = none_had vs flags (omega (arith, long)) (either_off _ _ none).1 r (omega (arith, lt)) on

-- where no removed place below n has a binary, none is passed on
pub none_passed : (rows : List (List ℕ)) (flags : List Bool) (own : ℕ → List Text) (n : ℕ) → ((r : ℕ) → r < n → IsWanted flags true r → own r ≡ [])
    → (y : ℕ) → passed_below rows flags n own y ≡ own y
none_passed rows flags own zero none y = refl
none_passed rows flags own (suc n) none y = go (none_passed rows flags own n (λ r lt gone. none r (omega (arith, lt)) gone)) (slice_index_or flags n false) refl
  where
    P : ℕ → List Text
    P = passed_below rows flags n own

    put : ((x : ℕ) → P x ≡ own x) → P n ≡ [] → (b : Bool) → cond b (put_each (P y) (take 10 (P n))) (P y) ≡ own y
    put below is b = grind arith

    go : ((x : ℕ) → P x ≡ own x) → (b : Bool) → slice_index_or flags n false ≡ b → (cond b (passed_from rows n P) P) y ≡ own y
    go below b gone = grind (arith, put)

module _ (rows : List (List ℕ)) (flags : List Bool) (own : ℕ → List Text) (size : ℕ) where
  -- the lists once the places below i have had their turns
  abbrev pub Turned : ℕ → (ℕ → List Text) → Type 0
  Turned i lists = (y : ℕ) → y < size → lists y ≡ passed_below rows flags i own y

  abbrev before : ℕ → ℕ → List Text
  before i y = passed_below rows flags i own y

  next : (i : ℕ) (lists : ℕ → List Text) → Turned (suc i) lists → Turned (i + 1) lists
  next i lists t = let e : suc i ≡ i + 1 = omega arith in subst (λ n. Turned n lists) e t

  -- a kept place has no turn
  pub kept_turn : (i : ℕ) (lists : ℕ → List Text) → IsWanted flags false i → Turned i lists → Turned (i + 1) lists
  kept_turn i lists kept t = next i lists (λ y below. t y below ∙ sym (ap (λ b. (cond b (passed_from rows i (before i)) (before i)) y) kept))

  -- a removed place has its turn
  pub one_turn : (i : ℕ) → i < size → IsWanted flags true i → (lists lists' : ℕ → List Text) → Turned i lists →
      ((y : ℕ) → y < size → (Leads rows i y × (lists' y ≡ put_each (lists y) (take 10 (lists i)))) ⊎ ((¬ Leads rows i y) × (lists' y ≡ lists y))) → Turned (i + 1) lists'
  one_turn i inside gone lists lists' t puts = grind (arith, next i lists', stands_true, stands_false)

among_last : (xs : List Text) (k x : Text) → lists_text (xs ++ k ∷ []) x ≡ (lists_text xs x || bytes_eq x k)
among_last xs k x = list_any-append (bytes_eq x) xs (k ∷ []) ∙ ap (λ t. lists_text xs x || t) (or-false (bytes_eq x k))

-- a text that is there already makes no difference
among_again : (xs : List Text) (k x : Text) → lists_text xs k ≡ true → (lists_text xs x || bytes_eq x k) ≡ lists_text xs x
among_again xs k x there = grind (arith, bytes_eq-Decides x k, or-false (lists_text xs x))

-- what an answer that says whether a text is new tells of the set before
pub was_false : (had is_new : Bool) → is_new ≡ not had → is_new ≡ true → had ≡ false
was_false had b e t = grind arith

pub was_true : (had is_new : Bool) → is_new ≡ not had → is_new ≡ false → had ≡ true
was_true had b e f = grind arith

-- one more binary
pub knows_more : (s n : BTreeSet (Bor Text)) (own : List Text) (k : Text) → Knows s own → ((x : Text) → set_has n x ≡ (set_has s x || bytes_eq x k)) → Knows n (put_each own (k ∷ []))
knows_more s n own k known added x = grind (arith, among_again, among_last own k x)

-- a set that isn't empty is filled
pub filled : (s : BTreeSet (Bor Text)) (xs : List Text) (is_empty : Bool) → IsTrue is_empty ↔ (btree_set_len s ≡ 0) → is_empty ≡ false → MayKnow s xs → Knows s xs
filled s xs b tells not_empty p = grind arith

-- so many sets, none of which is filled
pub record AreBlank (ss : List (BTreeSet (Bor Text))) (n : ℕ) : Type 0 where
  pub count : length ss ≡ n
  pub each : (y : ℕ) (s : BTreeSet (Bor Text)) → slice_get ss y ≡ Some s → btree_set_len s ≡ 0

-- what is there already isn't put
put_none : (xs ys : List Text) → ((x : Text) → Among ys x → Among xs x) → put_each xs ys ≡ xs
put_none xs [] there = refl
put_none xs (y ∷ ys) there = ap (λ b. put_each (cond b xs (xs ++ y ∷ [])) ys) (among-true xs y (there y (inl refl))) ∙ put_none xs ys (λ x i. there x (inr i))

put_again : (xs ys : List Text) → put_each (put_each xs ys) ys ≡ put_each xs ys
put_again xs ys = put_none (put_each xs ys) ys (λ x i. put_puts xs ys x i)

abbrev list_in : Option Feature → List Text
list_in o = option_map_or (λ v. texts_now v.required_by_bins.items) o []

pub bins_read : (vs : List Feature) (i : ℕ) (v : Feature) → i < length vs → v ≡ get_or vs i v → bins_of vs i ≡ texts_now v.required_by_bins.items
bins_read vs i v lt is = ap list_in (slice_get_read vs (length vs) i v refl lt is)

-- a feature gets these binaries, and the set of its place knows them
module _ (vs : List Feature) (i : ℕ) (w : Feature) (lt : i < length vs) where
  pub put_one : (v : Feature) (bins : List Text) → v ≡ get_or vs i v → with_said but_bins w ≡ with_said but_bins v →
      texts_now w.required_by_bins.items ≡ put_each (texts_now v.required_by_bins.items) bins → Puts (λ y. y ≡ i) bins vs (set vs i w)
  put_one v bins read alike put = record {
    same = map-set_same (with_said but_bins) vs i w v (alike ∙ ap (with_said but_bins) read);
    lists = λ y below. elim (cases_eq y i) [
      | inl e ↦ inl (
        e,
        subst (λ j. bins_of (set vs i w) j ≡ put_each (bins_of vs j) bins) (sym e)
            (ap list_in (set_here vs i w lt) ∙ put ∙ ap (λ xs. put_each xs bins) (sym (bins_read vs i v lt read))),
      )
      | inr ne ↦ inr (ne, ap list_in (set_others vs i y w ne))
    ];
  }

  pub know_one : (known : List (BTreeSet (Bor Text))) (s : BTreeSet (Bor Text)) → AreKnown known vs → Knows s (texts_now w.required_by_bins.items) → AreKnown (set known i s) (set vs i w)
  know_one known s h is = record {
    len = length-set known i s ∙ h.len ∙ sym (length-set vs i w);
    each = λ y u at. elim (cases_eq y i) [
      | inl e ↦ (let same : s ≡ u = same_Some s u (sym (set_here known i s (subst (λ n. i < n) (sym h.len) lt)) ∙ ap (slice_get (set known i s)) (sym e) ∙ at) in
          subst (λ z. MayKnow z (bins_of (set vs i w) y)) same (inr (subst (Knows s) (sym (ap (bins_of (set vs i w)) e ∙ ap list_in (set_here vs i w lt))) is)))
      | inr ne ↦ subst (MayKnow u) (sym (ap list_in (set_others vs i y w ne))) (h.each y u (sym (set_others known i y s ne) ∙ at))
    ];
  }

pub on_ok_weaker : {X Y : Type 0} (r : Result X Y) (A Q : Type 0) → (A → Q) → OnOk r A → OnOk r Q
on_ok_weaker r A Q f a = grind arith

-- no place is named
pub put_nowhere : (bins : List Text) (vs : List Feature) → Puts (λ y. ⊥) bins vs vs
put_nowhere bins vs = record { same = refl; lists = λ y below. inr (λ n. n, refl) }

decided_among : (xs : List ℕ) (y : ℕ) → Among xs y ⊎ (¬ Among xs y)
decided_among [] y = inr (λ i. i)
decided_among (x ∷ xs) y = grind (arith, cases_eq y x, decided_among xs y)

-- no binary is put
pub put_nothing : (row : List ℕ) (ks : List (Bor Text)) (bins : List Text) (vs : List Feature) → length ks ≡ 0 → texts_now ks ≡ bins → Puts (Among row) bins vs vs
put_nothing row [] bins vs none are = subst (λ xs. Puts (Among row) xs vs vs) are (record { same = refl; lists = λ y below. elim (decided_among row y) [ inl i ↦ inl (i, refl) | inr n ↦ inr (n, refl) ] })
put_nothing row (k ∷ ks) bins vs none are = absurd (omega arith)

module _ (A B C : ℕ → Type 0) (bins : List Text) (vs ws : List Feature) (old : Puts A bins vs ws) where
  -- into these lists, then into those
  pub then_put : (us : List Feature) → ((y : ℕ) → C y ↔ (A y ⊎ B y)) → Puts B bins ws us → Puts C bins vs us
  then_put us both new = record { same = new.same ∙ old.same; lists = λ y below. grind (arith, put_again, both y, old.lists y below, new.lists y (subst (λ n. y < n) (sym (alike_len but_bins vs ws old.same)) below)) }

  -- those are no places of features
  pub put_past : ((y : ℕ) → C y ↔ (A y ⊎ B y)) → ((y : ℕ) → B y → length vs ≤ y) → Puts C bins vs ws
  put_past both past = grind arith

put_last : (xs ys : List Text) (y : Text) → put_each xs (ys ++ y ∷ []) ≡ put_each (put_each xs ys) (y ∷ [])
put_last xs [] y = refl
put_last xs (z ∷ ys) y = put_last (if lists_text xs z then xs else (xs ++ z ∷ [])) ys y

-- one more binary
pub put_more : (own : List Text) (ks : List (Bor Text)) (i : ℕ) (d : Bor Text) → i < length ks → put_each own (texts_now (take (i + 1) ks)) ≡ put_each (put_each own (texts_now (take i ks))) ((get_or ks i d).now ∷ [])
put_more own ks i d lt = ap (put_each own) (map_more (λ (k : Bor Text). k.now) ks i d lt) ∙ put_last own (texts_now (take i ks)) (get_or ks i d).now
