-- Lists, and what is read of them.
use Rattle.cargo_toml_lint.proofs.Cited.{Among, Bool, IsFlagged, IsTrue, List, Vec, [], among-either, among-first, among-second, arith, cases_eq, edges_left, false, false≢true, get_or, get_or-set_other, get_or-set_same, get_or_read, length, or_cases, or_left, or_right, refl, row_at, set, suc, sym, take, take_more, true, zero, ℕ, ◌+◌, ◌<◌, ◌||◌, ◌↔◌, ◌∷◌, ◌≡◌, ◌≤◌, ◌⊎◌}

pub among_more : (xs : List ℕ) (i v : ℕ) → i < length xs → Among (take (i + 1) xs) v ↔ (Among (take i xs) v ⊎ (v ≡ get_or xs i 0))
among_more xs i v lt = grind (arith, take_more xs i 0 lt, among-either, among-first, among-second)

-- a flag is set
pub flag_set : (flags : List Bool) (x : ℕ) → x < length flags → (y : ℕ) → IsFlagged (set flags x true) y ↔ (IsFlagged flags y ⊎ (y ≡ x))
flag_set flags x lt y = grind (arith, cases_eq y x, get_or-set_same flags x true false lt, get_or-set_other flags x y true false)

-- a flag is set, if that is wanted
pub flag_or : (flags : List Bool) (x : ℕ) (v b : Bool) → x < length flags → v ≡ get_or flags x v → (y : ℕ) → IsFlagged (set flags x (v || b)) y ↔ (IsFlagged flags y ⊎ ((y ≡ x) × IsTrue b))
flag_or flags x v b lt at y =
    grind (arith, cases_eq y x, get_or-set_same flags x (v || b) false lt, get_or-set_other flags x y (v || b) false, get_or_read flags x v lt at false, or_cases v b, or_left v b, or_right v b)

-- the edges of a vertex are taken
pub left_taken : {Z : Type 0} (rows : List (Vec ℕ Z)) (flags : List Bool) (x : ℕ) → x < length rows → x < length flags → get_or flags x false ≡ false → edges_left rows (set flags x true) + length (row_at rows x) ≡ edges_left rows flags
left_taken [] flags x lt lf off = absurd (omega arith)
left_taken (v ∷ rows) [] x lt lf off = absurd (omega arith)
left_taken (v ∷ rows) (true ∷ flags) zero lt lf off = absurd (false≢true (sym off))
left_taken (v ∷ rows) (false ∷ flags) zero lt lf off = omega arith
left_taken (v ∷ rows) (true ∷ flags) (suc x) lt lf off = left_taken rows flags x (omega arith) (omega arith) off
left_taken (v ∷ rows) (false ∷ flags) (suc x) lt lf off = let rest = left_taken rows flags x (omega arith) (omega arith) off in omega (arith, rest)

-- more flags leave no more edges
pub left_less : {Z : Type 0} (rows : List (Vec ℕ Z)) (old new : List Bool) → length new ≡ length old → ((y : ℕ) → IsFlagged old y → IsFlagged new y) → edges_left rows new ≤ edges_left rows old
left_less [] old new len more = omega arith
left_less (v ∷ rows) [] [] len more = omega arith
left_less (v ∷ rows) (o ∷ old) [] len more = absurd (omega arith)
left_less (v ∷ rows) [] (n ∷ new) len more = absurd (omega arith)
left_less (v ∷ rows) (true ∷ old) (true ∷ new) len more = left_less rows old new (omega arith) (λ y. more (suc y))
left_less (v ∷ rows) (true ∷ old) (false ∷ new) len more = absurd (false≢true (more 0 refl))
left_less (v ∷ rows) (false ∷ old) (true ∷ new) len more = let rest = left_less rows old new (omega arith) (λ y. more (suc y)) in omega (arith, rest)
left_less (v ∷ rows) (false ∷ old) (false ∷ new) len more = let rest = left_less rows old new (omega arith) (λ y. more (suc y)) in omega (arith, rest)
