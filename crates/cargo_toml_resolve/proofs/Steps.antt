-- Steps of a walk over numbers, by marks, and the walk.
use Rattle.cargo_toml_resolve.proofs.Cited.{Among, AreMarked, Bool, FindsNamed, Gathers, GathersLabel, HasLabel, IsPassed, IsWanted, Leads, List, Reaches, [], among-either, among-first, among-second, ap, arith, cases_eq, cases_lt, chained, edge, false, get_or, get_or-set_other, get_or-set_same, get_or_from_slice_get, get_or_past, inl, inr, length, length-append}
use Rattle.cargo_toml_resolve.proofs.Cited.{length-set, map, map-set, nat_eq, nat_tests, refl, replicate, set, slice_get_read, subst, suc, sum_by-set, sym, take, take-append-le, take_more, through, true, zero, ℕ, ◌++◌, ◌+◌, ◌<◌, ◌↔◌, ◌∙◌, ◌∷◌, ◌≡◌, ◌≢◌, ◌≤◌, ◌⊎◌}
use Rattle.std.proofs.lemmas.List.{take_all}
use Rattle.cargo_toml_features.proofs.ByPlace as places

pub among_push : {K : Type 0} (xs : List K) (y x : K) → Among (xs ++ y ∷ []) x ↔ (Among xs x ⊎ (x ≡ y))
among_push xs y x = (
  λ i. elim (among-either xs (y ∷ []) x i) [ inl j ↦ inl j | inr j ↦ elim j [ inl e ↦ inr e | inr n ↦ absurd n ] ],
  elim [ inl j ↦ among-first xs (y ∷ []) x j | inr e ↦ among-second xs (y ∷ []) x (inl e) ],
)

pub among_more : (xs : List ℕ) (i v : ℕ) → i < length xs → Among (take (i + 1) xs) v ↔ (Among (take i xs) v ⊎ (v ≡ get_or xs i 0))
among_more xs i v lt = subst (λ ys. Among ys v ↔ (Among (take i xs) v ⊎ (v ≡ get_or xs i 0))) (sym (take_more xs i 0 lt)) (among_push (take i xs) (get_or xs i 0) v)

pub among_at : (xs : List ℕ) (i : ℕ) → i < length xs → Among xs (get_or xs i 0)
among_at xs i lt = places.among_at xs i 0 lt

-- what is read within a list is what stands there, whatever the default
pub read_at : {X : Type 0} (xs : List X) (i : ℕ) (d x : X) → i < length xs → x ≡ get_or xs i x → get_or xs i d ≡ x
read_at xs i d x lt e = get_or_from_slice_get xs i x d (slice_get_read xs (length xs) i x refl lt e)

-- an element of a list, and its place
pub item_is : (xs : List ℕ) (i x : ℕ) → i < length xs → x ≡ get_or xs i x → x ≡ get_or xs i 0
item_is xs i x lt is = sym (read_at xs i 0 x lt is)

pub item_at : (xs : List ℕ) (i x p : ℕ) → i < length xs → x ≡ get_or xs i x → p ≡ x → p ≡ get_or xs i 0
item_at xs i x p lt is at = at ∙ item_is xs i x lt is

-- a row past the end is empty
pub has_row : (rows : List (List ℕ)) (a b : ℕ) → Leads rows a b → a < length rows
has_row rows a b i = grind (arith, cases_lt a (length rows), get_or_past rows a)

pub no_visit : (found : List ℕ) (marks : List Bool) → AreMarked found marks → FindsNamed (λ y. ⊥) found found marks marks
no_visit found marks are = grind arith

module _ (x : ℕ) (found : List ℕ) (met : List Bool) (marks : AreMarked found met) (inside : x < length met) where
  -- x was not met
  pub is_new : get_or met x false ≡ false → (met' : List Bool) → met' ≡ set met x true → FindsNamed (λ y. y ≡ x) found (found ++ x ∷ []) met met'
  is_new new met' is = grind (arith, cases_eq, among_push, take-append-le, length-append, length-set, get_or-set_same, get_or-set_other, sum_by-set)

-- one visit after another
pub then_visit : (A B C : ℕ → Type 0) (f0 f1 f2 : List ℕ) (m0 m1 m2 : List Bool) → ((y : ℕ) → C y ↔ (A y ⊎ B y)) → FindsNamed A f0 f1 m0 m1 → FindsNamed B f1 f2 m1 m2 → FindsNamed C f0 f2 m0 m2
then_visit A B C f0 f1 f2 m0 m1 m2 both v w = grind arith

-- the same names
pub alike : (A B : ℕ → Type 0) (f f' : List ℕ) (m m' : List Bool) → ((y : ℕ) → A y ↔ B y) → FindsNamed A f f' m m' → FindsNamed B f f' m m'
alike A B f f' m m' same v = grind arith

-- one more target that is looked at
module _ (targets : List ℕ) (flags : List Bool) (wanted : Bool) (i : ℕ) (lt : i < length targets) where
  abbrev pub Looked : ℕ → ℕ → Type 0
  Looked n y = Among (take n targets) y × IsWanted flags wanted y

  pub with_target : get_or flags (get_or targets i 0) false ≡ wanted → (y : ℕ) → Looked (i + 1) y ↔ (Looked i y ⊎ (y ≡ get_or targets i 0))
  with_target e y = grind (arith, among_more)

  pub without_target : get_or flags (get_or targets i 0) false ≢ wanted → (y : ℕ) → Looked i y ↔ Looked (i + 1) y
  without_target ne y = grind (arith, among_more)

  module _ (f0 f1 f2 : List ℕ) (m0 m1 m2 : List Bool) (v : FindsNamed (Looked i) f0 f1 m0 m1) where
    pub one_more : get_or flags (get_or targets i 0) false ≡ wanted → FindsNamed (λ y. y ≡ get_or targets i 0) f1 f2 m1 m2 → FindsNamed (Looked (i + 1)) f0 f2 m0 m2
    one_more e w = then_visit (Looked i) (λ y. y ≡ get_or targets i 0) (Looked (i + 1)) f0 f1 f2 m0 m1 m2 (with_target e) v w

    pub passed_by : get_or flags (get_or targets i 0) false ≢ wanted → FindsNamed (Looked (i + 1)) f0 f1 m0 m1
    passed_by ne = alike (Looked i) (Looked (i + 1)) f0 f1 m0 m1 (without_target ne) v

module _ (edges : List (List ℕ)) (flags : List Bool) (start : ℕ) where
  pub record Walks (next : ℕ) (found : List ℕ) (met : List Bool) : Type 0 where
    pub marks : AreMarked found met
    pub begun : (y : ℕ) → Leads edges start y → IsWanted flags true y → Among found y
    pub sound : (x : ℕ) → Among found x → IsPassed edges flags start x
    pub closed : (x y : ℕ) → Among (take next found) x → Leads edges x y → IsWanted flags true y → Among found y

  pub begins : (found : List ℕ) (met met' : List Bool) → FindsNamed (λ y. Leads edges start y × IsWanted flags true y) [] found met met' → Walks 0 found met'
  begins found met met' v = record {
    marks = v.marks;
    begun = λ y l r. v.reaches y (l, r);
    sound = λ x i. elim (v.only x i) [ inl i ↦ absurd i | inr n ↦ (n.1, edge n.0) ];
    closed = λ x y i. absurd i;
  }

  pub goes_on : (next : ℕ) (found found' : List ℕ) (met met' : List Bool) → next < length found → Walks next found met
      → (at : ℕ) → at ≡ get_or found next at → FindsNamed (λ y. Leads edges at y × IsWanted flags true y) found found' met met' → Walks (next + 1) found' met'
  goes_on next found found' met met' lt w at is v = record {
    marks = v.marks;
    begun = λ y l r. v.grows y (w.begun y l r);
    sound = λ x i. elim (v.only x i) [ inl i ↦ w.sound x i | inr n ↦ let p = w.sound at (subst (Among found) there (among_at found next lt)) in (n.1, chained (IsWanted flags true) p.1 p.0 (edge n.0)) ];
    closed = λ x y i l r.
        elim ((among_more found next x lt).0 (subst (λ t. Among t x) (v.front (next + 1) (omega arith)) i)) [
          | inl i ↦ v.grows y (w.closed x y i l r)
          | inr e ↦ v.reaches y (subst (λ z. Leads edges z y) (e ∙ there) l, r)
        ];
  }
    where
      there : get_or found next 0 ≡ at
      there = read_at found next 0 at lt is

  pub ends : (next : ℕ) (found : List ℕ) (met : List Bool) → length found ≤ next → Walks next found met → (b : ℕ) → Among found b ↔ IsPassed edges flags start b
  ends next found met le w b = (w.sound b, λ p. all w.begun p.1 p.0)
    where
      all : {a b : ℕ} → ((y : ℕ) → Leads edges a y → IsWanted flags true y → Among found y) → Reaches (Leads edges) (IsWanted flags true) a b → IsWanted flags true b → Among found b
      all {b} out (edge l) r = out b l r
      all out (through {b = c} l s p) r = all (λ y m t. w.closed c y (subst (λ ys. Among ys c) (sym (take_all next found le)) (out c l s)) m t) p r

-- where a path ends
pub path_inside : {E : ℕ → ℕ → Type 0} {S : ℕ → Type 0} {a b : ℕ} (bound : ℕ) → ((a b : ℕ) → E a b → b < bound) → Reaches E S a b → b < bound
path_inside {a = a} {b = b} bound within (edge e) = within a b e
path_inside bound within (through e s p) = path_inside bound within p

-- the vertex that is looked at next
pub next_below : (edges : List (List ℕ)) (flags : List Bool) (start next : ℕ) (found : List ℕ) (met : List Bool) → Walks edges flags start next found met → ((a b : ℕ) → Leads edges a b → b < length edges) → next < length found → (at : ℕ) → at ≡ get_or found next at → at < length edges
next_below edges flags start next found met w whole lt at is = path_inside (length edges) whole (w.sound at (subst (Among found) (read_at found next 0 at lt is) (among_at found next lt))).1

-- what stands at an epoch
abbrev pub marks_at : ℕ → List ℕ → List Bool
marks_at e ss = map (λ s. nat_eq s e) ss

pub none_marked : (ss : List ℕ) (e e' : ℕ) → ((x : ℕ) → get_or ss x 0 ≤ e) → e < e' → marks_at e' ss ≡ replicate (length (marks_at e ss)) false
none_marked [] e e' h lt = refl
none_marked (s ∷ ss) e e' h lt =
    let low : s ≤ e = h 0 in
    let one : nat_eq s e' ≡ false = grind (arith, nat_tests) in
    let rest = none_marked ss e e' (λ x. h (suc x)) lt in
    cc

pub none_at_first : (n : ℕ) → marks_at 1 (replicate n 0) ≡ replicate n false
none_at_first zero = refl
none_at_first (suc n) = ap (λ l. false ∷ l) (none_at_first n)

pub one_marked : (ss : List ℕ) (x s e : ℕ) → s ≡ e → marks_at e (set ss x s) ≡ set (marks_at e ss) x true
one_marked ss x s e is = grind (arith, nat_tests, map-set (λ z. nat_eq z e) ss x s)

-- ---- the labels of a list of vertices, one vertex after another, and a path by its last edge
module _ {K : Type 0} (E : K → K → Type 0) (S : K → Type 0) where
  -- a path is its last edge, from a gathered vertex
  pub last_edge : {a f : K} → Reaches E S a f → (b : K) × Gathers E S a b × E b f
  last_edge {a} (edge e) = (a, inl refl, e)
  last_edge {a} (through {b = c} e s p) =
      let l = last_edge p in
      (l.0, elim (l.1) [ inl same ↦ inr (subst S (sym same) s, subst (λ v. Reaches E S a v) (sym same) (edge e)) | inr g ↦ inr (g.0, through e s g.1) ], l.2)

  pub with_last : {a b f : K} → Gathers E S a b → E b f → Reaches E S a f
  with_last {f} (inl same) l = edge (subst (λ v. E v f) same l)
  with_last (inr g) l = chained S g.1 g.0 (edge l)

module _ (labels : List (List ℕ)) (flags : List Bool) (wanted : Bool) where
  abbrev pub Labelled : (ℕ → Type 0) → ℕ → Type 0
  Labelled From x = ((b : ℕ) × From b × Leads labels b x) × IsWanted flags wanted x

  module _ (passed : List ℕ) (i : ℕ) where
    pub one_more_list : i < length passed → (f0 f1 f2 : List ℕ) (m0 m1 m2 : List Bool) → FindsNamed (Labelled (Among (take i passed))) f0 f1 m0 m1
        → FindsNamed (λ y. Leads labels (get_or passed i 0) y × IsWanted flags wanted y) f1 f2 m1 m2 → FindsNamed (Labelled (Among (take (i + 1) passed))) f0 f2 m0 m2
    one_more_list lt f0 f1 f2 m0 m1 m2 v w = grind (arith, then_visit, among_more)

  pub begin_list : (passed found : List ℕ) (met : List Bool) → AreMarked found met → FindsNamed (Labelled (Among (take 0 passed))) found found met met
  begin_list passed found met marks = alike (λ y. ⊥) (Labelled (Among (take 0 passed))) found found met met (λ y. (λ n. absurd n, λ n. absurd n.0.1)) (no_visit found met marks)

-- what a vertex and those that it passes have, it gathers along its paths
module _ (edges : List (List ℕ)) (flags : List Bool) (labels : List (List ℕ)) (Passed : ℕ → Type 0) (a : ℕ) (is : (b : ℕ) → Passed b ↔ IsPassed edges flags a b) (x : ℕ) where
  pub gathered : HasLabel Passed labels flags a x ↔ (GathersLabel (Leads edges) (IsWanted flags true) (Leads labels) a x × IsWanted flags false x)
  gathered = grind arith

-- those that a vertex and the ones that it passes lead to, it reaches
pub reached : (edges : List (List ℕ)) (flags : List Bool) (Passed : ℕ → Type 0) (a : ℕ) → ((b : ℕ) → Passed b ↔ IsPassed edges flags a b) → (x : ℕ) → HasLabel Passed edges flags a x ↔ (IsWanted flags false x × Reaches (Leads edges) (IsWanted flags true) a x)
reached edges flags Passed a is x =
    let g = gathered edges flags edges Passed a is x in (
      λ h. let k = g.0 h in (k.1, with_last (Leads edges) (IsWanted flags true) k.0.1 k.0.2),
      λ p. g.1 (last_edge (Leads edges) (IsWanted flags true) p.1, p.0),
    )
