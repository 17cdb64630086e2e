-- Where places lead is where names turn.
use Rattle.cargo_toml_lint.proofs.Cited.{AreLed, AreLinks, AreWalks, Bool, Bor, Edge, Enables, IsCyclic, IsFlagged, IsInRing, IsOnlyDefault, IsTrue, IsUnreachable, Leads, LeadsOn, Links, List, None, Path, Table, Text, Walks, [], among_at, ap, arith, at_among, bytes_eq, bytes_eq-Decides, cases_Bool, cases_eq, codes, enables_has, false≢true, further, get_or, inl, inr, is_hidden, itself, length, map, name_at, names_of, not, not-true, not_from_false, nth_text, once, refl, subst, suc, sym, true, zero, ℕ, ◌+◌, ◌<◌, ◌↔◌, ◌∙◌, ◌∷◌, ◌≡◌, ◌≢◌, ◌⊎◌}
use Rattle.cargo_toml_lint.proofs.{Edges.length_now, Searching.along, Searching.path_edge}

-- the text that is read in a place
pub text_at : (names : List (Bor Text)) (i : ℕ) (t : Bor Text) → i < length names → t ≡ get_or names i t → t.now ≡ nth_text (map (λ t. t.now) names) i
text_at [] i t lt e = absurd (omega arith)
text_at (x ∷ xs) zero t lt e = ap (λ (s : Bor Text). s.now) e
text_at (x ∷ xs) (suc i) t lt e = text_at xs i t (omega arith) e

-- one more place whose feature goes on, if it passes
pub led_more : {l : Links} {test : Text → Bool} {Goes : ℕ → ℕ → Type 0} (a : ℕ) (b : Bool) (old new : List Bool) → b ≡ test (name_at l a) → AreLed l a test Goes old → length new ≡ length old
    → ((y : ℕ) → IsFlagged new y ↔ (IsFlagged old y ⊎ (IsTrue b × Goes a y))) → AreLed l (a + 1) test Goes new
led_more {l} {test} {Goes} a b old new is led len put = record {
  len = len ∙ led.len;
  are = λ y. (
    λ f. elim ((put y).0 f) [
      | inl o ↦ let w = (led.are y).0 o in (w.0, (let lt = w.1 in omega arith), w.2, w.3)
      | inr g ↦ (a, omega arith, sym is ∙ g.0, g.1)
    ],
    λ w. (put y).1 (elim (cases_eq w.0 a) [
      | inl e ↦ inr (is ∙ subst (λ k. IsTrue (test (name_at l k))) e w.2, subst (λ k. Goes k y) e w.3)
      | inr other ↦ inl ((led.are y).1 (w.0, (let lt = w.1 in omega (arith, other)), w.2, w.3))
    ]),
  );
}

module _ (t : Table) (l : Links) (are : AreLinks t l) where
  abbrev n : ℕ
  n = length l.names.items

  in_names : {a : ℕ} → a < n → a < length (names_of l)
  in_names {a} lt = grind (arith, length_now)

  -- a feature has a place
  pub place : (f : Text) → IsTrue (t.has f) → (a : ℕ) × (a < n) × (name_at l a ≡ f)
  place f h = grind (arith, at_among (names_of l) f [], length_now)

  pub known_at : (a : ℕ) → a < n → IsTrue (t.has (name_at l a))
  known_at a lt = (are.known (name_at l a)).1 (among_at (names_of l) a [] (in_names lt))

  pub has_place : (f : Text) → IsTrue (t.has f) ↔ ((a : ℕ) × (a < n) × (name_at l a ≡ f))
  has_place f = (place f, λ p. subst (λ g. IsTrue (t.has g)) p.2 (known_at p.0 p.1))

  same_place : (a b : ℕ) → a < n → b < n → name_at l a ≡ name_at l b → a ≡ b
  same_place a b lt lu e = once (names_of l) are.found.in_order a b (in_names lt) (in_names lu) e

  next_inside : (a b : ℕ) → Leads l.reach.next.items a b → b < n
  next_inside a b e = subst (λ k. b < k) are.found.count (are.found.finished.whole.inside a b e)

  -- ---- paths
  turns : (a b : ℕ) → a < n → Path l.reach.next.items a b → (b < n) × Enables t (name_at l a) (name_at l b)
  turns a b lt p =
      along (Leads l.reach.next.items) (λ v. (v < n) × Enables t (name_at l a) (name_at l v))
      (λ x y s e.
      let inside = next_inside x y e in
      (inside, further s.1 ((are.leads x y s.0 inside).0 e) (known_at y inside)))
      (lt, itself) p

  -- what a feature turns on has a place, to which its own leads
  leads_to : {f x : Text} (a : ℕ) → a < n → name_at l a ≡ f → Enables t f x → (b : ℕ) × (b < n) × (name_at l b ≡ x) × Path l.reach.next.items a b
  leads_to a lt at itself = (a, lt, at, inl refl)
  leads_to {f} {x} a lt at (further {g = g} e m h) =
      let r = leads_to a lt at e in
      let q = place x h in
      let edge = (are.leads r.0 q.0 r.1 q.1).1 (subst (λ y. IsTrue (t.names y (name_at l q.0))) (sym r.2) (subst (λ y. IsTrue (t.names g y)) (sym q.2) m)) in
      (q.0, q.1, q.2, path_edge (Leads l.reach.next.items) r.3 edge)

  leads_at : (a b : ℕ) → a < n → b < n → Enables t (name_at l a) (name_at l b) → Path l.reach.next.items a b
  leads_at a b lt lu e = grind (arith, leads_to, same_place)

  -- what the feature in a place turns on
  pub in_place : (a : ℕ) (f : Text) → a < n → name_at l a ≡ f → (x : Text) → {o : Bool} → IsTrue o ↔ ((b : ℕ) × (b < n) × (name_at l b ≡ x) × Path l.reach.next.items a b) → IsTrue o ↔ (IsTrue (t.has f) × Enables t f x)
  in_place a f lt at x h = grind (arith, known_at, turns, leads_to)

  -- ---- what is found of the feature in a place
  module _ (none : (f k : Text) → t.action f k ≡ None) (w : Walks) (walks : AreWalks l w) (p : ℕ) (lt : p < n) where
    abbrev own : Text
    own = name_at l p

    pub cyclic_at : IsInRing l.reach.next.items p ↔ IsCyclic t own
    cyclic_at = grind (arith, place, turns, leads_at, known_at, same_place, enables_has)

    pub unreachable_at : (IsTrue (is_hidden own) × ¬ IsFlagged w.reached.items p) ↔ IsUnreachable t own
    unreachable_at = grind (arith, place, turns, leads_at, known_at, not_from_false, not-true)

    edge_at : (k : ℕ) → k < n → ((p ≢ k) × Leads l.reach.next.items k p) ↔ Edge t (name_at l k) own
    edge_at k lk = grind (arith, known_at, same_place)

    -- the sources by one step of which the test holds
    of_led : (test : Text → Bool) (flags : List Bool) → AreLed l n test (LeadsOn l) flags → IsFlagged flags p ↔ ((e : Text) × Edge t e own × IsTrue (test e))
    of_led test flags led = (
      λ h. let r = (led.are p).0 h in (name_at l r.0, (edge_at r.0 r.1).0 r.3, r.2),
      λ e.
          let q = place e.0 e.1.source in
          (led.are p).1 (q.0, q.1, ap test q.2 ∙ e.2, (edge_at q.0 q.1).1 (subst (λ f. Edge t f own) (sym q.2) e.1)),
    )

    pub only_default_at : (IsFlagged w.by_default.items p × ¬ IsFlagged w.by_others.items p) ↔ IsOnlyDefault t own
    only_default_at =
        let is : (e : Text) → (bytes_eq e (codes "default") ≡ true) ↔ (e ≡ codes "default") = λ e. bytes_eq-Decides e (codes "default") in
        let by_default = of_led (λ e. bytes_eq e (codes "default")) w.by_default.items walks.by_default in
        let by_others = of_led (λ e. not (bytes_eq e (codes "default"))) w.by_others.items walks.by_others in (
          λ h. record {
            default_does = let r = by_default.0 h.0 in subst (λ f. Edge t f own) ((is r.0).0 r.2) r.1;
            no_other = λ e d. elim (cases_Bool (bytes_eq e (codes "default"))) [
              | inl same ↦ (is e).0 same
              | inr isnt ↦ absurd (h.1 (by_others.1 (e, d, not_from_false _ isnt)))
            ];
          },
          λ o. (
            by_default.1 (codes "default", o.default_does, (is (codes "default")).1 refl),
            λ f. let r = by_others.0 f in false≢true (sym (not-true _ r.2) ∙ (is r.0).1 (o.no_other r.0 r.1)),
          ),
        )
