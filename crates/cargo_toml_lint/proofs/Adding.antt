-- What a loop adds for each element of a list that it goes through, or of what is left of a map.
use Rattle.cargo_toml_lint.proofs.Cited.{Bool, Dependency, DependencyMeaning, Detailed, Global, Inherited, List, None, Option, Simple, Some, String, TakesFirst, Target, TargetMeaning, Text, [], ap, append-nil, append_assoc, asked_of, dependency_meaning, entry_findings, features_at, flat_map, flat_map-append, get_or, length, map, map_push, refl, rest_all, rest_more, string_bytes, sym, table_findings, take, take_more, target_meaning, ℕ, ◌++◌, ◌+◌, ◌-◌, ◌<◌, ◌==◌, ◌∙◌, ◌∷◌, ◌≡◌}

-- what an entry of a table holds, and one of the table of targets
abbrev pub entry_of : String Global × Dependency → Text × DependencyMeaning
entry_of e = (string_bytes e.0, dependency_meaning e.1)

abbrev pub target_of : String Global × Target → Text × TargetMeaning
target_of e = (string_bytes e.0, target_meaning e.1)

-- the features that are asked for of a dependency
pub asked_is : (d : Dependency) → map string_bytes (features_at d) ≡ asked_of (dependency_meaning d)
asked_is (Simple r) = refl
asked_is (Inherited i) = refl
asked_is (Detailed d) = refl

-- three elements are added
pub pushed_three : {X Y : Type 0} (g : X → Y) (xs p q r : List X) (a b d : X) → p ≡ xs ++ a ∷ [] → q ≡ p ++ b ∷ [] → r ≡ q ++ d ∷ []
    → map g r ≡ map g xs ++ (g a ∷ g b ∷ g d ∷ [])
pushed_three g xs p q r a b d e f h =
    let assoc : ((map g xs ++ g a ∷ []) ++ g b ∷ []) ++ g d ∷ [] ≡ map g xs ++ (g a ∷ g b ∷ g d ∷ []) = simp append_assoc in
    ap (map g) h ∙ map_push g q d ∙ ap (λ ys. ys ++ g d ∷ []) (ap (map g) f ∙ map_push g p b ∙ ap (λ ys. ys ++ g b ∷ []) (ap (map g) e ∙ map_push g xs a)) ∙ assoc

-- one more of the first elements
pub mapped_next : {X Y Z : Type 0} (f : Y → List Z) (g : X → Y) (xs : List X) (i : ℕ) (x : X)
    → i < length xs → x ≡ get_or xs i x
    → flat_map f (map g (take (i + 1) xs)) ≡ flat_map f (map g (take i xs)) ++ f (g x)
mapped_next f g xs i x within is =
    ap (λ ys. flat_map f (map g ys)) (take_more xs i x within)
    ∙ ap (flat_map f) (map_push g (take i xs) (get_or xs i x))
    ∙ flat_map-append f (map g (take i xs)) (g (get_or xs i x) ∷ [])
    ∙ ap (λ t. flat_map f (map g (take i xs)) ++ t)
    (append-nil (f (g (get_or xs i x))) ∙ ap (λ y. f (g y)) (sym is))

-- ---- what is left of a map: the first of it, or nothing
module _ {A X : Type 0} (shows : A → X) (s t : List X) (r : Option A) (step : TakesFirst shows s r t) where
  pub left_next : {Y Z : Type 0} (f : Y → List Z) (g : X → Y) (x : A) → r ≡ Some x
      → flat_map f (map g s) ≡ f (g (shows x)) ++ flat_map f (map g t)
  left_next f g x is = ap (λ xs. flat_map f (map g xs)) (rest_more shows s t r x is step)

  pub left_none : {Y Z : Type 0} (f : Y → List Z) (g : X → Y) → r ≡ None → flat_map f (map g s) ≡ []
  left_none f g is = ap (λ xs. flat_map f (map g xs)) (rest_all shows s t r is step)

  pub table_next : (g : X → Text × DependencyMeaning) (dev : Bool) (n : ℕ) (x : A) → r ≡ Some x
      → table_findings dev n (map g s)
      ≡ entry_findings dev (n == 0) (g (shows x)).0 (g (shows x)).1 ++ table_findings dev (n - 1) (map g t)
  table_next g dev n x is = ap (λ xs. table_findings dev n (map g xs)) (rest_more shows s t r x is step)

  pub table_none : (g : X → Text × DependencyMeaning) (dev : Bool) (n : ℕ) → r ≡ None
      → table_findings dev n (map g s) ≡ []
  table_none g dev n is = ap (λ xs. table_findings dev n (map g xs)) (rest_all shows s t r is step)
