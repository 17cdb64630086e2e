-- Findings of single codes, for the features of which something holds.
use Rattle.cargo_toml_lint.proofs.Cited.{About, Among, Bool, Bor, Code, CountsBy, Cycle, Feature, Finding, Finds, HashMap, Implied, IsFound, IsTrue, List, PrivateDefault, Table, Text, Unreachable, [], among-either, among-first, among-second, ap, arith, cases_eq, false, false≢true, inl, inr, not, refl, subst, sym, told, true, when, ℕ, ◌&&◌, ◌++◌, ◌+◌, ◌<◌, ◌↔◌, ◌≡◌, ◌⊎◌}

-- what is found after something was added
found_after : (a b : List Finding) (xs : List About) → Finds xs a b → (c : Code) (f t : Text)
    → IsFound b c f t ↔ (IsFound a c f t ⊎ Among xs (c, f, t))
found_after a b xs put c f t = grind (arith, among-either, among-first, among-second)

-- what is found in the end, where nothing was found at first
pub found_first : {P : Type 0} (a b d e : List Finding) (xs : List About) (c : Code) (f t : Text)
    → a ≡ [] → Finds xs a b
    → IsFound e c f t ↔ IsFound d c f t → IsFound d c f t ↔ (IsFound b c f t ⊎ P)
    → IsFound e c f t ↔ (Among xs (c, f, t) ⊎ P)
found_first a b d e xs c f t none put same then = grind arith

told_in : (d : Code) (b : Bool) (n : Text) (c : Code) (f t : Text) → Among (told n [] (when b d)) (c, f, t)
    ↔ ((c ≡ d) × (t ≡ []) × (n ≡ f) × IsTrue b)
told_in d true n c f t = (
  elim [
    | inl e ↦ (ap (λ (p : About). p.0) e, ap (λ (p : About). p.2) e, sym (ap (λ (p : About). p.1) e), refl)
    | inr i ↦ absurd i
  ],
  λ h. inl (λ i. (h.0 i, sym h.2 i, h.1 i)),
)
told_in d false n c f t = (λ i. absurd i, λ h. absurd (false≢true h.3))

-- the four codes of features that count, of the feature n
module _ {S : Type 0} (m : HashMap (Bor Text) Feature S) (t : Table) (n : Text) (implied alone cyclic left : Bool)
    (h1 : IsTrue implied ↔ CountsBy m t Implied n) (h2 : IsTrue alone ↔ CountsBy m t PrivateDefault n)
    (h3 : IsTrue cyclic ↔ CountsBy m t Cycle n) (h4 : IsTrue left ↔ CountsBy m t Unreachable n) where
  abbrev Last : List About
  Last = told n [] (when cyclic Cycle) ++ told n [] (when left Unreachable)

  abbrev Later : List About
  Later = told n [] (when alone PrivateDefault) ++ Last

  abbrev pub All : List About
  All = told n [] (when implied Implied) ++ Later

  one : (d : Code) (b : Bool) → IsTrue b ↔ CountsBy m t d n → (c : Code) (f x : Text) → Among (told n [] (when b d)) (c, f, x)
      → (x ≡ []) × (n ≡ f) × CountsBy m t c f
  one d b h c f x i = grind (arith, told_in)

  of_code : (c : Code) → CountsBy m t c n → Among All (c, n, [])
  of_code Implied q = grind (arith, among-first, among-second, told_in Implied implied n Implied n [], h1)
  of_code PrivateDefault q = grind (arith, among-first, among-second, told_in PrivateDefault alone n PrivateDefault n [], h2)
  of_code Cycle q = grind (arith, among-first, among-second, told_in Cycle cyclic n Cycle n [], h3)
  of_code Unreachable q = grind (arith, among-first, among-second, told_in Unreachable left n Unreachable n [], h4)
  of_code _ q = absurd q

  pub all_found : (a b : List Finding) → Finds All a b → (c : Code) (f x : Text)
      → IsFound b c f x ↔ (IsFound a c f x ⊎ ((x ≡ []) × (n ≡ f) × CountsBy m t c f))
  all_found a b put c f x = let after = found_after a b All put c f x in (
    λ i. grind (arith, after, among-either, one Implied implied h1 c f x, one PrivateDefault alone h2 c f x, one Cycle cyclic h3 c f x, one Unreachable left h4 c f x),
    λ h. after.1 (elim h [
      | inl j ↦ inl j
      | inr r ↦ inr (subst (λ (z : Text). Among All (c, f, z)) (sym r.0) (subst (λ (g : Text). Among All (c, g, [])) r.1 (of_code c (subst (CountsBy m t c) (sym r.1) r.2))))
    ]),
  )

-- one holds, and the other doesn't
pub apart : {a b c d : Bool} → a ≡ c → b ≡ d → IsTrue (a && not b) ↔ (IsTrue c × ¬ IsTrue d)
apart {a} {b} p q = rw (← p, ← q) (go a b)
  where
    go : (a b : Bool) → IsTrue (a && not b) ↔ (IsTrue a × ¬ IsTrue b)
    go true true = (λ e. absurd (false≢true e), λ h. absurd (h.1 refl))
    go true false = (λ e. (refl, false≢true), λ h. refl)
    go false b = (λ e. absurd (false≢true e), λ h. absurd (false≢true h.0))

-- one more place
pub more_places : {T C start old new : Type 0} {N : ℕ → Type 0} {i : ℕ} → old ↔ (start ⊎ (T × ((a : ℕ) × (a < i) × N a) × C))
    → new ↔ (old ⊎ (T × N i × C)) → new ↔ (start ⊎ (T × ((a : ℕ) × (a < i + 1) × N a) × C))
more_places {T} {C} {start} {old} {new} {N} {i} h g = grind (arith, cases_eq)

-- and all of them
pub all_places : {T C Has start now : Type 0} {N : ℕ → Type 0} {i n : ℕ} → i ≡ n → Has ↔ ((a : ℕ) × (a < n) × N a)
    → now ↔ (start ⊎ (T × ((a : ℕ) × (a < i) × N a) × C)) → now ↔ (start ⊎ (T × Has × C))
all_places {i = i} {n = n} e has h = (
  λ p. elim (h.0 p) [ inl s ↦ inl s | inr r ↦ inr (r.0, has.1 (r.1.0, subst (λ k. r.1.0 < k) e r.1.1, r.1.2), r.2) ],
  λ q. h.1 (elim q [ inl s ↦ inl s | inr r ↦ let w = has.0 r.1 in inr (r.0, (w.0, subst (λ k. w.0 < k) (sym e) w.1, w.2), r.2) ]),
)
