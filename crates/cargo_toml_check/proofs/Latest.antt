-- The last of several values under a name, where one more comes.
use Rattle.std.proofs.Common.{◌≡◌, ◌++◌, ◌∷◌, ◌∙◌, ◌&&◌, Bool, List, None, Option, Some, [], ap, append-nil, bytes_eq, cond, false, map, option_map, option_to_list, refl, sym, true}
use Rattle.std.specs.{List.flat_map, List.list_all, Option.option_or}
use Rattle.std.proofs.lemmas.{Grind.flat_map-append, List.map-append}
use Rattle.std.proofs.lemmas.List.Folds.{list_all-append}
use Rattle.cargo_toml.specs.Action.{Text}
use Rattle.cargo_toml_check.specs.IndexFiles.{latest}

pub or_cond : {A : Type 0} (b : Bool) (x : A) (o p : Option A) → option_or (cond b (Some x) o) p ≡ cond b (Some x) (option_or o p)
or_cond b x o p = elim b as (λ v. option_or (cond v (Some x) o) p ≡ cond v (Some x) (option_or o p)) [ true ↦ refl | false ↦ refl ]

pub map_cond : {A B : Type 0} (f : A → B) (b : Bool) (x : A) (o : Option A) → option_map f (cond b (Some x) o) ≡ cond b (Some (f x)) (option_map f o)
map_cond f b x o = elim b as (λ v. option_map f (cond v (Some x) o) ≡ cond v (Some (f x)) (option_map f o)) [ true ↦ refl | false ↦ refl ]

or_none : {A : Type 0} (o : Option A) → o ≡ option_or o None
or_none None = refl
or_none (Some x) = refl

or_or : {A : Type 0} (o p q : Option A) → option_or (option_or o p) q ≡ option_or o (option_or p q)
or_or None p q = refl
or_or (Some x) p q = refl

-- of two lists in a row, the later counts
pub latest-append : {A : Type 0} (es fs : List (Text × A)) (name : Text) → latest (es ++ fs) name ≡ option_or (latest fs name) (latest es name)
latest-append [] fs name = or_none (latest fs name)
latest-append (e ∷ es) fs name =
    ap (λ o. option_or o (cond (bytes_eq e.0 name) (Some e.1) None)) (latest-append es fs name)
    ∙ or_or (latest fs name) (latest es name) (cond (bytes_eq e.0 name) (Some e.1) None)

-- of what is found in each of these, where one more comes
pub latest-more : {X A : Type 0} (find : X → Option (Text × A)) (xs : List X) (y : X) (name : Text)
    → latest (flat_map (λ z. option_to_list (find z)) (xs ++ y ∷ [])) name ≡ option_or (latest (option_to_list (find y)) name) (latest (flat_map (λ z. option_to_list (find z)) xs) name)
latest-more find xs y name =
    ap (λ l. latest l name) (flat_map-append (λ z. option_to_list (find z)) xs (y ∷ []))
    ∙ (ap (λ l. latest (flat_map (λ z. option_to_list (find z)) xs ++ l) name) (append-nil (option_to_list (find y)))
    ∙ latest-append (flat_map (λ z. option_to_list (find z)) xs) (option_to_list (find y)) name)

-- of one that is found
pub latest-one : {A : Type 0} (o : Option (Text × A)) (k : Text) (x : A) (name : Text) (before : Option A) → Some (k, x) ≡ o
    → cond (bytes_eq k name) (Some x) before ≡ option_or (latest (option_to_list o) name) before
latest-one o k x name before e =
    sym (or_cond (bytes_eq k name) x None before)
    ∙ ap (λ p. option_or (latest (option_to_list p) name) before) e

pub all-push : {X : Type 0} (p : X → Bool) (xs : List X) (y : X) → list_all p xs ≡ true → p y ≡ true → list_all p (xs ++ y ∷ []) ≡ true
all-push p xs y all one =
    list_all-append p xs (y ∷ [])
    ∙ (ap (λ b. b && (p y && true)) all ∙ ap (λ b. b && true) one)

-- one more of two lists that are mapped alike
pub map_more_by : {X Y Z : Type 0} (f : X → Z) (g : Y → Z) (xs : List X) (ys : List Y) (x : X) (y : Y) → map f xs ≡ map g ys → f x ≡ g y → map f (xs ++ x ∷ []) ≡ map g (ys ++ y ∷ [])
map_more_by f g xs ys x y all one =
    map-append f xs (x ∷ [])
    ∙ (ap (λ zs. zs ++ f x ∷ []) all
    ∙ (ap (λ z. map g ys ++ z ∷ []) one
    ∙ sym (map-append g ys (y ∷ []))))
