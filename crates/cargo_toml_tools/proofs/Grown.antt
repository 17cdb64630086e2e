-- Lists that grow by a piece for each element.
use Rattle.cargo_toml_lint.proofs.Adding.{left_next as rest_next, left_none as rest_none, pushed_three}
use Rattle.cargo_toml_tools.proofs.Cited.{[], ◌++◌, ◌+◌, ◌<◌, ◌∙◌, ◌∷◌, ◌≡◌, add-one, ap, drop, drop-cons, flat_map, flat_map-append, get_or, length, List, map, refl, sym, ℕ}

-- what is left begins with the next
pub drop_next : {A : Type 0} (xs : List A) (i : ℕ) (d : A) → i < length xs → drop i xs ≡ get_or xs i d ∷ drop (i + 1) xs
drop_next xs i d h = rw (add-one, drop-cons xs i d)

-- the same, where an element is the next
pub left_next : {A B : Type 0} (f : A → B) (xs : List A) (i : ℕ) (x : A) → i < length xs → x ≡ get_or xs i x → map f (drop i xs) ≡ f x ∷ map f (drop (i + 1) xs)
left_next f xs i x within is = ap (map f) (drop_next xs i x within ∙ ap (λ t. t ∷ drop (i + 1) xs) (sym is))

-- what is left of a list
pub mapped_left : {X Y Z : Type 0} (f : Y → List Z) (g : X → Y) (xs : List X) (i : ℕ) (x : X) → i < length xs → x ≡ get_or xs i x
    → flat_map f (map g (drop i xs)) ≡ f (g x) ++ flat_map f (map g (drop (i + 1) xs))
mapped_left f g xs i x within is = ap (flat_map f) (left_next g xs i x within is)

pub flat_flat : {A B C : Type 0} (f : B → List C) (g : A → List B) (xs : List A) → flat_map f (flat_map g xs) ≡ flat_map (λ x. flat_map f (g x)) xs
flat_flat f g [] = refl
flat_flat f g (x ∷ xs) = flat_map-append f (g x) (flat_map g xs) ∙ ap (λ t. flat_map f (g x) ++ t) (flat_flat f g xs)

-- of one loop in another, and of the tables of a manifest
pub ruleset nested = (mapped_left, rest_next, rest_none)

pub ruleset tables = (rest_next, rest_none, pushed_three)
