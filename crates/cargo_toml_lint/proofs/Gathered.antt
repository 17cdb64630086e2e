-- What a loop over a list gathers.
use Rattle.cargo_toml_lint.proofs.Cited.{Among, Bool, Bor, Global, IsTrue, List, String, Text, Vec, [], ap, arith, bytes_eq, bytes_eq-Decides, common_steps, false≢true, get_or, inl, inr, is_at, is_eq-slice_cmp, is_some, length, list_any, list_any-append, lookup, map, map_push, nat_cmp, or-false, or_cases, or_left, or_right, refl, slice_cmp, string_bytes, take, take_more, ℕ, ◌+◌, ◌<◌, ◌||◌, ◌↔◌, ◌∙◌, ◌∷◌, ◌≡◌, ◌⊎◌}

-- some of the keys is f
abbrev pub has_in : List (Bor Text) → Text → Bool
has_in ks f = list_any (is_at (λ k. slice_cmp nat_cmp f k.now)) ks

pub at_head : (k : Bor Text) (ks : List (Bor Text)) (f : Text) → IsTrue (has_in (k ∷ ks) f)
    → (f ≡ k.now) ⊎ IsTrue (has_in ks f)
at_head k ks f e = grind (arith, or_cases, bytes_eq-Decides, is_eq-slice_cmp)

-- the same as texts
pub among_now : (ks : List (Bor Text)) (f : Text) → IsTrue (has_in ks f) ↔ Among (map (λ k. k.now) ks) f
among_now [] f = (λ h. absurd (false≢true h), λ i. absurd i)
among_now (k ∷ ks) f = let rest = among_now ks f in (
  λ h. elim (at_head k ks f h) [ inl e ↦ inl e | inr i ↦ inr (rest.0 i) ],
  elim [
    | inl e ↦ or_left _ _ (is_eq-slice_cmp f k.now ∙ (bytes_eq-Decides f k.now).1 e)
    | inr i ↦ or_right _ _ (rest.1 i)
  ],
)

-- ---- one step of a loop
-- one more of the first elements
pub any_more : {X Y Z : Type 0} (p : Z → Bool) (f : Y → Z) (g : X → Y) (xs : List X) (i : ℕ) (x : X)
    → i < length xs → x ≡ get_or xs i x
    → list_any p (map f (map g (take (i + 1) xs))) ≡ (list_any p (map f (map g (take i xs))) || p (f (g x)))
any_more p f g xs i x below read =
    grind (arith, take_more xs i x below, map_push g (take i xs) x, map_push f (map g (take i xs)) (g x), list_any-append p (map f (map g (take i xs))) (f (g x) ∷ []), or-false (p (f (g x))))

pub any_map : {X Y : Type 0} (p : Y → Bool) (g : X → Y) (xs : List X) → list_any p (map g xs)
    ≡ list_any (λ x. p (g x)) xs
any_map p g [] = refl
any_map p g (x ∷ xs) = ap (λ b. p (g x) || b) (any_map p g xs)

-- ---- entries of a map of lists
-- a name, and the texts of its list
abbrev pub list_of : String Global × Vec (String Global) Global → Text × List Text
list_of e = (string_bytes e.0, map string_bytes e.1.items)

-- a map of texts has the name
pub listed_in : {X Y : Type 0} (g : X → Y) (f : Text) (es : List (String Global × X)) →
    is_some (lookup (is_at (λ k. slice_cmp nat_cmp f (string_bytes k))) es)
    ≡ list_any (λ (e : Text × Y). bytes_eq f e.0)
    (map (λ (e : String Global × X). (string_bytes e.0, g e.1)) es)
listed_in g f [] = refl
listed_in g f (e ∷ es) = grind (arith, common_steps, string_bytes, is_eq-slice_cmp f (string_bytes e.0), listed_in g f es)
