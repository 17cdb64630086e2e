-- The lines of products that are gone through by their places.
use Rattle.cargo_toml_program.proofs.Cited.{List, Text, [], ap, append-nil, append_assoc, flat_map, flat_map-append, get_or, length, map, map_push, sym, take, take_more, ℕ, ◌++◌, ◌+◌, ◌<◌, ◌∙◌, ◌∷◌, ◌≡◌}

-- the line of one more
pub one_more : {X Y : Type 0} (line : Y → Text) (g : X → Y) (start old new : Text) (xs : List X) (i : ℕ) (x : X) → i < length xs → x ≡ get_or xs i x
    → new ≡ old ++ line (g x) → old ≡ start ++ flat_map line (map g (take i xs)) → new ≡ start ++ flat_map line (map g (take (i + 1) xs))
one_more line g start old new xs i x below read e h =
    let before = flat_map line (map g (take i xs)) in
    e ∙ ap (λ t. t ++ line (g x)) h ∙ append_assoc start before (line (g x))
    ∙ ap (λ t. start ++ (before ++ t)) (sym (append-nil (line (g x))))
    ∙ ap (λ t. start ++ t) (sym (flat_map-append line (map g (take i xs)) (g x ∷ [])))
    ∙ ap (λ ys. start ++ flat_map line ys) (sym (map_push g (take i xs) x))
    ∙ ap (λ ys. start ++ flat_map line (map g ys)) (sym (take_more xs i x below ∙ ap (λ y. take i xs ++ y ∷ []) (sym read)))
