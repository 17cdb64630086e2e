-- What loops over texts gain.
use Rattle.std.proofs.Common.{Bool, Bor, List, [], ap, arith, bytes_eq, cond, filter, get_or, if◌then◌else◌, length, map, sym, take, true, ◌++◌, ◌+◌, ◌<◌, ◌||◌, ◌∙◌, ◌∷◌, ◌≡◌, ℕ}
use Rattle.std.proofs.Math.Bool.{or-false, or_assoc}
use Rattle.std.proofs.Math.ListN.{get_or-map}
use Rattle.std.proofs.lemmas.List.{length-map, map_push, take-map, take_more}
use Rattle.std.proofs.lemmas.List.Elements.{filter_more}
use Rattle.std.specs.List.{list_any}
use Rattle.cargo_toml.specs.Action.{Text}
use Rattle.cargo_toml_graph.proofs.Texts.{bytes_eq_sym}

any-push : (ts : List Text) (u t : Text) → list_any (bytes_eq t) (ts ++ u ∷ []) ≡ list_any (bytes_eq t) ts || bytes_eq t u
any-push [] u t = or-false (bytes_eq t u)
any-push (v ∷ ts) u t = rw (any-push ts u t) (sym (or_assoc (bytes_eq t v) (list_any (bytes_eq t) ts) (bytes_eq t u)))

or-cond : (a b : Bool) → cond b true a ≡ a || b
or-cond a b = grind arith

-- what stands at no place
abbrev pub nowhere : Bor Text
nowhere = record { ref_ptr = (0, 0); now = [] }

-- one more text in the set, and in the list
pub has_more : (xs : List (Bor Text)) (i : ℕ) (bs t : Text) → i < length xs → bs ≡ (get_or xs i nowhere).now →
    (had now : Bool) → had ≡ list_any (bytes_eq t) (map (λ x. x.now) (take i xs)) → now ≡ cond (bytes_eq bs t) true had → now ≡ list_any (bytes_eq t) (map (λ x. x.now) (take (i + 1) xs))
has_more xs i bs t below same had now h e =
    let x : Bor Text = get_or xs i nowhere in
    let f : Bor Text → Text = λ x. x.now in
    grind (arith, take_more xs i nowhere below, map_push f (take i xs) x, any-push (map f (take i xs)) (f x) t, bytes_eq_sym t bs, or-cond had (bytes_eq bs t))

-- one more text that passes a test, or doesn't
pub passes_more : (p : Text → Bool) (xs : List (Bor Text)) (i : ℕ) (old new : List Text) → i < length xs → old ≡ filter p (map (λ x. x.now) (take i xs))
    → new ≡ old ++ (if p (get_or xs i nowhere).now then (get_or xs i nowhere).now ∷ [] else []) → new ≡ filter p (map (λ x. x.now) (take (i + 1) xs))
passes_more p xs i old new below had e =
    let f : Bor Text → Text = λ x. x.now in
    let here : get_or (map f xs) i [] ≡ f (get_or xs i nowhere) = get_or-map f xs i nowhere in
    let inside : i < length (map f xs) = rw length-map below in
    e ∙ ap (λ ts. ts ++ (if p (f (get_or xs i nowhere)) then f (get_or xs i nowhere) ∷ [] else [])) (had ∙ ap (filter p) (sym (take-map f i xs)))
    ∙ ap (λ (t : Text). filter p (take i (map f xs)) ++ (if p t then t ∷ [] else [])) (sym here)
    ∙ sym (filter_more p (map f xs) i [] inside) ∙ ap (filter p) (take-map f (i + 1) xs)
