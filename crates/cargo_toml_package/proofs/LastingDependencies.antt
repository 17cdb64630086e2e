-- Where no dependency is left to the workspace, inheritance changes nothing.
use Rattle.cargo_toml_package.proofs.Cited.{Bool, DependencyMeaning, Entries, Fault, List, Ok, Option, Result, TargetMeaning, [], any_left, any_target_left, ap, beside, detailed, each, false, inherited, inherited_entries, inherited_entry, inherited_target, inherited_targets, is_left, list_any, or_parts, refl, simple, target_left, ℕ, ◌>>=◌, ◌∷◌, ◌≡◌}

-- a step that gives this leads to what follows
then : {A B : Type 0} (step : Result A Fault) (x : A) (next : A → Result B Fault) (r : Result B Fault) → step ≡ Ok x →
    next x ≡ r → ◌>>=◌ step next ≡ r
then step x next r h k = rw h k

-- where each element stays, the list does
each-kept : {A : Type 0} (f : A → Result A Fault) (bad : A → Bool) → ((x : A) → bad x ≡ false → f x ≡ Ok x) →
    (xs : List A) → list_any bad xs ≡ false → each f xs ≡ Ok xs
each-kept f bad kept [] none = refl
each-kept f bad kept (x ∷ xs) none =
    let parts = or_parts (bad x) (list_any bad xs) none in
    then (f x) x (λ y. ◌>>=◌ (each f xs) (λ ys. Ok (y ∷ ys))) (Ok (x ∷ xs)) (kept x parts.0)
    (then (each f xs) xs (λ ys. Ok (x ∷ ys)) (Ok (x ∷ xs)) (each-kept f bad kept xs parts.1) refl)

entry-kept : (templates : Option Entries) (base key : List ℕ) (d : DependencyMeaning) → is_left d ≡ false →
    inherited_entry templates base key d ≡ Ok d
entry-kept templates base key (simple r) none = refl
entry-kept templates base key (inherited entry) none = cc
entry-kept templates base key (detailed d) none = refl

pub entries-kept : (templates : Option Entries) (base : List ℕ) (es : Entries) → any_left es ≡ false →
    inherited_entries templates base es ≡ Ok es
entries-kept templates base es none =
    each-kept (λ e. beside e.0 (inherited_entry templates base e.0 e.1)) (λ e. is_left e.1)
    (λ e h. ap (beside e.0) (entry-kept templates base e.0 e.1 h)) es none

pub target-kept : (templates : Option Entries) (base : List ℕ) (t : TargetMeaning) →
    any_left t.dependencies ≡ false → any_left t.dev_dependencies ≡ false → any_left t.build_dependencies ≡ false →
    inherited_target templates base t ≡ Ok t
target-kept templates base t own dev build =
    then (inherited_entries templates base t.dependencies) t.dependencies _ (Ok t)
    (entries-kept templates base t.dependencies own)
    (then (inherited_entries templates base t.build_dependencies) t.build_dependencies _ (Ok t)
    (entries-kept templates base t.build_dependencies build)
    (then (inherited_entries templates base t.dev_dependencies) t.dev_dependencies _ (Ok t)
    (entries-kept templates base t.dev_dependencies dev) refl))

one-target-kept : (templates : Option Entries) (base : List ℕ) (t : TargetMeaning) → target_left t ≡ false →
    inherited_target templates base t ≡ Ok t
one-target-kept templates base t none =
    let build = or_parts _ _ none in
    let dev = or_parts _ _ build.0 in
    target-kept templates base t dev.0 dev.1 build.1

pub targets-kept : (templates : Option Entries) (base : List ℕ) (ts : List (List ℕ × TargetMeaning)) →
    any_target_left ts ≡ false →
    inherited_targets templates base ts ≡ Ok ts
targets-kept templates base ts none =
    each-kept (λ e. beside e.0 (inherited_target templates base e.1)) (λ e. target_left e.1)
    (λ e h. ap (beside e.0) (one-target-kept templates base e.1 h)) ts none
