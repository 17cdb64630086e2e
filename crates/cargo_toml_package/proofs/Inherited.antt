-- What the inherited dependencies become, and all of them by that.
use Rattle.cargo_toml_package.proofs.Cited.{Dependency, DependencyMeaning, Entries, Err, Error, Fault, Gives, Global, InheritedMeaning, List, Ok, Option, Result, Vec, [], ap, append_assoc, beside, detailed, inherited, inherited_entries, inherited_entry, inl, inr, made_meaning, refl, replaced, result_map_both, simple, ℕ, ◌++◌, ◌>>=◌, ◌∙◌, ◌∷◌, ◌≡◌}

-- one more in front
abbrev pub in_front : {A F : Type 0} → Result A F → Result (List A) F → Result (List A) F
in_front (Err e) rest = Err e
in_front (Ok x) (Err e) = Err e
in_front (Ok x) (Ok xs) = Ok (x ∷ xs)

-- what the inherited ones become, in order, or the first fault
abbrev pub needed : Option Entries → List ℕ → Entries → Result (List DependencyMeaning) Fault
needed templates base [] = Ok []
needed templates base ((key, simple r) ∷ es) = needed templates base es
needed templates base ((key, detailed d) ∷ es) = needed templates base es
needed templates base ((key, inherited entry) ∷ es) = in_front (inherited_entry templates base key (inherited entry)) (needed templates base es)

-- those that are made, and then those of the answer
abbrev pub behind : {A F : Type 0} → List A → Result (List A) F → Result (List A) F
behind xs (Ok ys) = Ok (xs ++ ys)
behind xs (Err e) = Err e

pub behind-push : {A F : Type 0} (xs : List A) (x : A) (q : Result (List A) F) → behind xs (in_front (Ok x) q) ≡ behind (xs ++ x ∷ []) q
behind-push xs x (Ok ys) = rw append_assoc refl
behind-push xs x (Err e) = refl

kept : (x : List ℕ × DependencyMeaning) (f : List DependencyMeaning → Entries) (all : Result Entries Fault) (q : Result (List DependencyMeaning) Fault) → all ≡ result_map_both f (λ e. e) q →
    ◌>>=◌ all (λ ys. Ok (x ∷ ys)) ≡ result_map_both (λ xs. x ∷ f xs) (λ e. e) q
kept x f all (Ok xs) h = rw h refl
kept x f all (Err e) h = rw h refl

taken : (key : List ℕ) (entry : InheritedMeaning) (es : Entries) (r : Result DependencyMeaning Fault) (all : Result Entries Fault) (q : Result (List DependencyMeaning) Fault) → all ≡ result_map_both (replaced es) (λ e. e) q →
    ◌>>=◌ (beside key r) (λ y. ◌>>=◌ all (λ ys. Ok (y ∷ ys))) ≡ result_map_both (replaced ((key, inherited entry) ∷ es)) (λ e. e) (in_front r q)
taken key entry es (Ok d) all (Ok made) h = rw h refl
taken key entry es (Ok d) all (Err e) h = rw h refl
taken key entry es (Err e) all q h = refl

-- all of them, by what the inherited ones become
all-needed : (templates : Option Entries) (base : List ℕ) (es : Entries) → inherited_entries templates base es ≡ result_map_both (replaced es) (λ e. e) (needed templates base es)
all-needed templates base [] = refl
all-needed templates base ((key, simple r) ∷ es) = kept (key, simple r) (replaced es) _ (needed templates base es) (all-needed templates base es)
all-needed templates base ((key, detailed d) ∷ es) = kept (key, detailed d) (replaced es) _ (needed templates base es) (all-needed templates base es)
all-needed templates base ((key, inherited entry) ∷ es) = taken key entry es (inherited_entry templates base key (inherited entry)) _ (needed templates base es) (all-needed templates base es)

-- the same of an answer
pub gives_all : (templates : Option Entries) (base : List ℕ) (es : Entries) (r : Result (Vec Dependency Global) Error) → Gives made_meaning r (needed templates base es) → Gives (λ made. replaced es (made_meaning made)) r (inherited_entries templates base es)
gives_all templates base es (Ok made) h = all-needed templates base es ∙ ap (λ (q : Result (List DependencyMeaning) Fault). result_map_both (replaced es) (λ e. e) q) h
gives_all templates base es (Err e) (inl memory) = inl memory
gives_all templates base es (Err e) (inr h) = inr (all-needed templates base es ∙ ap (λ (q : Result (List DependencyMeaning) Fault). result_map_both (replaced es) (λ e. e) q) h)
