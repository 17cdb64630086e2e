-- A copy holds the same.
use Rattle.std.proofs.Common.{◌≡◌, ℕ, List, [], ◌∷◌, map, Option, Some, None, option_map, String, Global, string_bytes, refl, ap}
use Rattle.std.specs.List.{AllZip}
use Rattle.semver.specs.declared.VersionReq.{VersionReq}
use Rattle.semver.specs.declared.Comparator.{Comparator}
use Rattle.semver.specs.Identifiers.{comparator_view, text_of}
use Rattle.semver.specs.contracts.VersionReqClone.TheImpl as requirement
use Rattle.semver.specs.contracts.ComparatorClone.TheImpl as comparator
use Rattle.cargo_toml_parts.specs.Versions.{requirement_meaning}

-- copies that hold the same, one by one
pub zip_same : {X M : Type 0} (f : X → M) (R : X → X → Type 0) → ((x y : X) → R x y → f y ≡ f x) → (xs ys : List X) → AllZip R xs ys → map f ys ≡ map f xs
zip_same f R same [] [] h = refl
zip_same f R same [] (y ∷ ys) h = absurd h
zip_same f R same (x ∷ xs) [] h = absurd h
zip_same f R same (x ∷ xs) (y ∷ ys) h = let a = same x y h.0 in let b = zip_same f R same xs ys h.1 in cc

-- a copy of an option, where R relates a value and its copy
abbrev pub IsOptionCopy : {X : Type 0} → (X → X → Type 0) → Option X → Option X → Type 0
IsOptionCopy R None None = Unit {0}
IsOptionCopy R None (Some y) = ⊥
IsOptionCopy R (Some x) None = ⊥
IsOptionCopy R (Some x) (Some y) = R x y

pub option_same : {X M : Type 0} (f : X → M) (R : X → X → Type 0) → ((x y : X) → R x y → f y ≡ f x) → (x y : Option X) → IsOptionCopy R x y → option_map f y ≡ option_map f x
option_same f R same None None h = refl
option_same f R same None (Some y) h = absurd h
option_same f R same (Some x) None h = absurd h
option_same f R same (Some x) (Some y) h = ap Some (same x y h)

text_same : (x y : Option (String Global)) → IsOptionCopy (λ s t. string_bytes t ≡ string_bytes s) x y → text_of y ≡ text_of x
text_same None None h = refl
text_same None (Some y) h = absurd h
text_same (Some x) None h = absurd h
text_same (Some x) (Some y) h = h

number_same : (x y : Option ℕ) → IsOptionCopy (λ a b. b ≡ a) x y → y ≡ x
number_same None None h = refl
number_same None (Some y) h = absurd h
number_same (Some x) None h = absurd h
number_same (Some x) (Some y) h = ap Some h

pub comparator_same : (x y : Comparator) → comparator.ghosts.is_clone x y → comparator_view y ≡ comparator_view x
comparator_same x y h =
    let op = h.0 in
    let major = h.1.0 in
    let minor = number_same x.minor y.minor h.1.1.0 in
    let patch = number_same x.patch y.patch h.1.1.1.0 in
    let pre = text_same x.pre.identifier y.pre.identifier h.1.1.1.1 in
    cc

pub requirement_same : (x y : VersionReq) → requirement.ghosts.is_clone x y → requirement_meaning y ≡ requirement_meaning x
requirement_same x y h = zip_same comparator_view _ comparator_same x.comparators.items y.comparators.items h.0
