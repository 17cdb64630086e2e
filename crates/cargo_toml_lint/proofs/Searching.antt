-- A search, one vertex after another.
use Rattle.cargo_toml_lint.proofs.Cited.{Among, Bool, Decides-eqb, Gathers, HasEdges, IsFinished, IsFlagged, IsInRing, IsWhole, Leads, List, Path, Reach, Reaches, Searches, Stands, Vec, [], among-either, among-first, among-second, among_at, arith, cases_eq, chained, edge, false, false≢true, get_or, inl, inr, length, length-set, refl, row_at, set, subst, sym, through, true, ℕ, ◌++◌, ◌<◌, ◌==◌, ◌↔◌, ◌∙◌, ◌∷◌, ◌≡◌, ◌≢◌, ◌⊎◌}
use Rattle.cargo_toml_lint.proofs.Rows.{flag_set}

abbrev All : ℕ → Type 0
All v = Unit {0}

-- a path, and one more edge
pub path_edge : (E : ℕ → ℕ → Type 0) {a b c : ℕ} → Gathers E All a b → E b c → Gathers E All a c
path_edge E {a} {b} {c} (inl e) l = inr (tt, edge (subst (λ v. E v c) e l))
path_edge E (inr p) l = inr (tt, chained All p.1 tt (edge l))

-- what holds at the start of a path, and goes along edges, holds at its end
pub along : (E : ℕ → ℕ → Type 0) (S : ℕ → Type 0) → ((x y : ℕ) → S x → E x y → S y) → {a b : ℕ} → S a → Gathers E All a b → S b
along E S goes s (inl e) = subst S (sym e) s
along E S goes s (inr p) = by s p.1
  where
    by : {a b : ℕ} → S a → Reaches E All a b → S b
    by {a} {b} s (edge e) = goes a b s e
    by {a} s (through {b = c} e t p) = by (goes a c s e) p

pub path_then : (E : ℕ → ℕ → Type 0) {a b c : ℕ} → Gathers E All a b → Gathers E All b c → Gathers E All a c
path_then E {a} p q = along E (λ v. Gathers E All a v) (λ x y s l. path_edge E s l) p q

-- where a path ends
pub path_inside : (r : Reach) → IsWhole r → (a b : ℕ) → a < length r.next.items → Path r.next.items a b → b < length r.next.items
path_inside r whole a b lt p = along (Leads r.next.items) (λ v. v < length r.next.items) (λ x y s l. whole.inside x y l) lt p

module _ (r : Reach) (start : ℕ) (row : List Bool) (waiting : List ℕ) (x : ℕ) (s : Searches r start row (waiting ++ x ∷ [])) where
  was : (y : ℕ) → Among (waiting ++ x ∷ []) y → Among waiting y ⊎ (y ≡ x)
  was y i = elim (among-either waiting (x ∷ []) y i) [ inl j ↦ inl j | inr j ↦ elim j [ inl e ↦ inr e | inr a ↦ absurd a ] ]

  pub meets_old : IsFlagged row x → Searches r start row waiting
  meets_old on = grind (arith, among-either, among-first)

  pub meets_row : IsWhole r → Stands r x → (new : List Bool) → length new ≡ length row → ((y : ℕ) → IsFlagged new y ↔ (IsFlagged row y ⊎ IsFlagged (row_at r.rows.items x) y)) → Searches r start new waiting
  meets_row whole stands new len is = record {
    len = len ∙ s.len;
    begun = elim s.begun [ inl f ↦ inl ((is start).1 (inl f)) | inr i ↦ taken start (was start i) ];
    sound = λ y f. grind (arith, is y, s.sound y, s.met x, among-second, whole.right x y stands, path_then (Leads r.next.items));
    met = λ y i. s.met y (among-first waiting (x ∷ []) y i);
    done = λ y z f l. grind (arith, is y, is z, s.done y z, taken z, was z, whole.right x y stands, whole.right x z stands, path_edge (Leads r.next.items));
  }
    where
      taken : (y : ℕ) → Among waiting y ⊎ (y ≡ x) → IsFlagged new y ⊎ Among waiting y
      taken y (inl i) = inr i
      taken y (inr e) = inl ((is y).1 (inr ((whole.right x y stands).1 (inl e))))

  pub meets_new : x < length row → Searches r start (set row x true) (waiting ++ row_at r.next.items x)
  meets_new lt = grind (arith, among-either, among-first, among-second, path_edge (Leads r.next.items), flag_set row x lt, length-set row x true)

pub search_ends : (r : Reach) (start : ℕ) (row : List Bool) (waiting : List ℕ) → length waiting ≡ 0 → Searches r start row waiting → (y : ℕ) → IsFlagged row y ↔ Path r.next.items start y
search_ends r start row [] none s y = grind (arith, along (Leads r.next.items) (IsFlagged row))
search_ends r start row (w ∷ waiting) none s y = absurd (omega arith)

-- a row that isn't empty stands
pub stood : (r : Reach) (x : ℕ) (own : List Bool) → own ≡ row_at r.rows.items x → {b : Bool} → b ≡ (length own == 0) → b ≡ false → Stands r x
stood r x own is told off = grind (arith, Decides-eqb)

-- where all is found, a vertex leads to itself and to what its row flags
pub led_by : (r : Reach) (a b : ℕ) → IsFinished r → ((b ≡ a) ⊎ IsFlagged (row_at r.rows.items a) b) ↔ Path r.next.items a b
led_by r a b all = (
  elim [ inl e ↦ inl e | inr on ↦ (all.whole.right a b (flagged (row_at r.rows.items a) on)).0 on ],
  elim [ inl e ↦ inl e | inr p ↦ inr ((all.whole.right a b (all.settled a (leads p.1))).1 (inr p)) ],
)
  where
    flagged : (row : List Bool) → IsFlagged row b → 0 < length row
    flagged [] on = absurd (false≢true on)
    flagged (f ∷ row) on = omega arith

    some : (v : ℕ) (to : List ℕ) → Among to v → 0 < length to
    some v [] i = absurd i
    some v (t ∷ to) i = omega arith

    leads : Reaches (Leads r.next.items) All a b → HasEdges r a
    leads (edge e) = some b (row_at r.next.items a) e
    leads (through {b = c} e s p) = some c (row_at r.next.items a) e

-- an edge that is read in the list of its vertex
pub target_at : (r : Reach) (a i : ℕ) (targets : List ℕ) → targets ≡ row_at r.next.items a → i < length targets → Leads r.next.items a (get_or targets i 0)
target_at r a i targets is lt = subst (λ t. Among t (get_or targets i 0)) is (among_at targets i 0 lt)

-- where a ring leaves its vertex
pub first_step : {Z : Type 0} (next : List (Vec ℕ Z)) (own : ℕ) → IsInRing next own → (w : ℕ) × Leads next own w × (w ≢ own) × Path next w own
first_step {Z} next own ring = elim (ring.2) [
  | inl e ↦ absurd (ring.1 e)
  | inr p ↦ go refl p.1
]
  where
    back : Path next ring.0 own
    back = ring.3

    go : {a : ℕ} → a ≡ own → Reaches (Leads next) All a ring.0 → (w : ℕ) × Leads next own w × (w ≢ own) × Path next w own
    go {a} same (edge e) = (ring.0, subst (λ v. Leads next v ring.0) same e, ring.1, back)
    go {a} same (through {b = c} e s p) = elim (cases_eq c own) [
      | inl here ↦ go here p
      | inr other ↦ (c, subst (λ v. Leads next v c) same e, other, path_then (Leads next) (inr (tt, p)) back)
    ]
