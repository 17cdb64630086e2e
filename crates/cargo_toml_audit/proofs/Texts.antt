-- Lists of texts: what they are joined to, and which stand in one, with one more.
use Rattle.cargo_toml_audit.proofs.Cited.{Bool, List, Text, [], ap, beq, bytes_eq, bytes_eq_sym, drop, flat_map-map, get_or, if◌then◌else◌, is_in, join_by, left_next, length, list_any-append, map, map-append, or-false, picked, refl, sym, take, take_more, ℕ, ◌++◌, ◌+◌, ◌<◌, ◌||◌, ◌∙◌, ◌∷◌, ◌≡◌}

pub join_mapped : {X : Type 0} (f : X → Text) (between : Text) (xs : List X) → join_by f between xs ≡ join_by (λ t. t) between (map f xs)
join_mapped f between [] = refl
join_mapped f between (x ∷ xs) = ap (λ t. f x ++ t) (sym (flat_map-map (λ (t : Text). between ++ t) f xs))

pub one_more_in : (ts : List Text) (x t : Text) → is_in (ts ++ x ∷ []) t ≡ (is_in ts t || bytes_eq x t)
one_more_in ts x t = list_any-append (bytes_eq t) ts (x ∷ []) ∙ ap (λ b. is_in ts t || b) (or-false (bytes_eq t x) ∙ bytes_eq_sym t x)

module _ {X : Type 0} (f : X → Text) (xs : List X) (i : ℕ) (x : X) (within : i < length xs) (is : x ≡ get_or xs i x) where
  next_taken : map f (take (i + 1) xs) ≡ map f (take i xs) ++ f x ∷ []
  next_taken = ap (map f) (take_more xs i x within) ∙ map-append f (take i xs) (get_or xs i x ∷ []) ∙ ap (λ y. map f (take i xs) ++ f y ∷ []) (sym is)

  pub in_next : (t : Text) → is_in (map f (take (i + 1) xs)) t ≡ (is_in (map f (take i xs)) t || bytes_eq (f x) t)
  in_next t = ap (λ ts. is_in ts t) next_taken ∙ one_more_in (map f (take i xs)) (f x) t

  pub picked_next : (again : Bool) → picked again (map f (take i xs)) (map f (drop i xs))
      ≡ (if beq (is_in (map f (take i xs)) (f x)) again then f x ∷ [] else []) ++ picked again (map f (take (i + 1) xs)) (map f (drop (i + 1) xs))
  picked_next again =
      ap (picked again (map f (take i xs))) (left_next f xs i x within is)
      ∙ ap (λ ts. (if beq (is_in (map f (take i xs)) (f x)) again then f x ∷ [] else []) ++ picked again ts (map f (drop (i + 1) xs))) (sym next_taken)
