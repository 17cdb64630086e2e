-- Rows in one list stay while more is put at its end.
use Rattle.std.proofs.Common.{◌≡◌, ◌<◌, ◌≤◌, ℕ, zero, suc, List, [], ◌∷◌, ◌++◌, length, get_or, set, refl, sym, ap, subst, ◌∙◌, arith, length-append, length-drop}
use Rattle.std.{proofs.lemmas.List.take-append-le, proofs.lemmas.List.drop-append-le, proofs.lemmas.List.map-append, proofs.lemmas.List.map-set, proofs.lemmas.List.length-map, proofs.lemmas.List.take_all, proofs.Math.Seq.drop-append_seam}
use Rattle.{std.specs.List.slice_range, cargo_toml_resolve.specs.declared.span.Span.Span, cargo_toml_resolve.specs.Spans.AreInside, cargo_toml_resolve.specs.Spans.rows_in}

inside_more : (n m : ℕ) (ss : List Span) → n ≤ m → AreInside n ss → AreInside m ss
inside_more n m [] le h = tt
inside_more n m (s ∷ ss) le h = ((h.0.0, let e = h.0.1 in omega (arith, e, le)), inside_more n m ss le h.1)

inside_push : (n : ℕ) (ss : List Span) (s : Span) → AreInside n ss → s.start ≤ s.end → s.end ≤ n → AreInside n (ss ++ s ∷ [])
inside_push n [] s h a b = ((a, b), tt)
inside_push n (t ∷ ss) s h a b = (h.0, inside_push n ss s h.1 a b)

inside_set : (n : ℕ) (ss : List Span) (i : ℕ) (s : Span) → AreInside n ss → s.start ≤ s.end → s.end ≤ n → AreInside n (set ss i s)
inside_set n [] i s h a b = tt
inside_set n (t ∷ ss) zero s h a b = ((a, b), h.1)
inside_set n (t ∷ ss) (suc i) s h a b = (h.0, inside_set n ss i s h.1 a b)

pub inside_at : (n : ℕ) (ss : List Span) (i j : ℕ) (s : Span) → AreInside n ss → i < length ss → j ≡ i → s ≡ get_or ss j s → (s.start ≤ s.end) × (s.end ≤ n)
inside_at n ss i j s h lt at e = go ss i h lt (subst (λ k. s ≡ get_or ss k s) at e)
  where
    go : (ss : List Span) (i : ℕ) → AreInside n ss → i < length ss → s ≡ get_or ss i s → (s.start ≤ s.end) × (s.end ≤ n)
    go [] i h lt e = absurd (omega arith)
    go (t ∷ ss) zero h lt e = subst (λ z. (z.start ≤ z.end) × (z.end ≤ n)) (sym e) h.0
    go (t ∷ ss) (suc i) h lt e = go ss i h.1 (omega arith) e

range_front : (xs ys : List ℕ) (a b : ℕ) → a ≤ b → b ≤ length xs → slice_range (xs ++ ys) a b ≡ slice_range xs a b
range_front xs ys a b le fits = grind (arith, drop-append-le, take-append-le, length-drop a xs)

range_back : (xs ys : List ℕ) (b : ℕ) → b ≡ length (xs ++ ys) → slice_range (xs ++ ys) (length xs) b ≡ ys
range_back xs ys b is = grind (arith, drop-append_seam xs ys, take_all, length-append xs ys)

rows_more : (xs ys : List ℕ) (ss : List Span) → AreInside (length xs) ss → rows_in (xs ++ ys) ss ≡ rows_in xs ss
rows_more xs ys [] h = refl
rows_more xs ys (s ∷ ss) h = grind (arith, range_front, rows_more xs ys ss h.1)

-- a row that is put at the end of the list
module _ (xs row ys : List ℕ) (ss : List Span) (inside : AreInside (length xs) ss) (more : ys ≡ xs ++ row) (a b : ℕ) (start : a ≡ length xs) (end : b ≡ length ys) where
  abbrev new_span : Span
  new_span = record { start = a; end = b }

  abbrev within : AreInside (length ys) ss
  within = inside_more (length xs) (length ys) ss (let l = length-append xs row in let e = ap length more in omega (arith, l, e)) inside

  abbrev before : a ≤ b
  before = let l = length-append xs row in let e = ap length more in omega (arith, l, e, start, end)

  same_rows : rows_in ys ss ≡ rows_in xs ss
  same_rows = ap (λ l. rows_in l ss) more ∙ rows_more xs row ss inside

  new_row : slice_range ys a b ≡ row
  new_row = ap (λ l. slice_range l a b) more ∙ ap (λ k. slice_range (xs ++ row) k b) start ∙ range_back xs row b (end ∙ ap length more)

  pub still_inside : AreInside (length ys) ss
  still_inside = within

  pub pushed_inside : (ts : List Span) → ts ≡ ss ++ new_span ∷ [] → AreInside (length ys) ts
  pushed_inside ts is = subst (AreInside (length ys)) (sym is) (inside_push (length ys) ss new_span within before (omega (arith, end)))

  pub rows_pushed : (ts : List Span) → ts ≡ ss ++ new_span ∷ [] → rows_in ys ts ≡ rows_in xs ss ++ row ∷ []
  rows_pushed ts is = grind (arith, map-append, same_rows, new_row)

  pub set_inside : (i : ℕ) → AreInside (length ys) (set ss i new_span)
  set_inside i = inside_set (length ys) ss i new_span within before (omega (arith, end))

  pub rows_set : (i : ℕ) → rows_in ys (set ss i new_span) ≡ set (rows_in xs ss) i row
  rows_set i = grind (arith, map-set, same_rows, new_row)

-- the span of a row
pub at_row : (nodes : List ℕ) (ss : List Span) (rows : List (List ℕ)) → rows_in nodes ss ≡ rows → AreInside (length nodes) ss → (i : ℕ) → i < length rows → (j : ℕ) (s : Span) → j ≡ i → s ≡ get_or ss j s → (s.start ≤ s.end) × (s.end ≤ length nodes)
at_row nodes ss rows view h i lt j s at is =
    inside_at (length nodes) ss i j s h (omega (arith, lt, ap length view, length-map ss (λ s. slice_range nodes s.start s.end))) at is
