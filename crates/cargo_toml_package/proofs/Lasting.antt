-- Where no field of a package is left to the workspace: each has a value, inheritance changes nothing, and discovery leaves none to it.
use Rattle.cargo_toml_package.proofs.Cited.{Bool, File, Inheritable, Inherited, IsFilled, IsSome, IsTrue, List, None, Ok, Option, Package, PackageMeaning, Set, Some, TemplateMeaning, any_field_left, false, field_is_left, filled_field, filled_if_there, held_package, inheritable_map, inherited_package, is_known, is_left_there, refl, true, value_of, with_template, with_template_if_there, ℕ, ◌||◌, ◌≡◌}
use Rattle.std.specs.Prelude.{option_map}

-- what a test of several things says of each
or_left : (a b : Bool) → a || b ≡ false → a ≡ false
or_left true b h = h
or_left false b h = refl

or_right : (a b : Bool) → a || b ≡ false → b ≡ false
or_right true b h = absurd cc
or_right false b h = h

neither : (a b : Bool) → a ≡ false → b ≡ false → a || b ≡ false
neither a b p q = rw (p, q) refl

-- a field of a package that is not left to the workspace has a value
set : {X M : Type 0} (f : X → M) (field : Inheritable X) → field_is_left (inheritable_map f field) ≡ false → IsSome (value_of field)
set f (Set x) h = refl
set f Inherited h = absurd cc

known : {X M : Type 0} (f : X → M) (field : Option (Inheritable X)) → is_left_there (option_map (inheritable_map f) field) ≡ false → IsTrue (is_known field)
known f None h = refl
known f (Some (Set x)) h = refl
known f (Some Inherited) h = absurd cc

pub filled_package : {M : Type 0} (p : Package M) → any_field_left (held_package p) ≡ false → IsFilled p
filled_package p none = search (set, known, or_left, or_right) depth 40 fits 4000

-- and stays as it is
kept : {A : Type 0} (field : Inheritable A) (value : Option A) → field_is_left field ≡ false → filled_field field value ≡ field
kept (Set x) value none = refl
kept Inherited value none = cc

kept_there : {A : Type 0} (field : Option (Inheritable A)) (value : Option A) → is_left_there field ≡ false →
    filled_if_there field value ≡ field
kept_there None value none = refl
kept_there (Some (Set x)) value none = refl
kept_there (Some Inherited) value none = cc

template-kept : {M : Type 0} (base : List ℕ) (t : TemplateMeaning) (p : PackageMeaning M) → any_field_left p ≡ false →
    with_template base t p ≡ p
template-kept base t p none = search (kept, kept_there, or_left, or_right) depth 40 fits 4000

template_if_there-kept : {M : Type 0} (base : List ℕ) (t : Option TemplateMeaning) (p : PackageMeaning M) → any_field_left p ≡ false →
    with_template_if_there base t p ≡ p
template_if_there-kept base None p none = refl
template_if_there-kept base (Some t) p none = template-kept base t p none

pub package-kept : {M : Type 0} (t : Option TemplateMeaning) (base : List ℕ) (p : PackageMeaning M) →
    any_field_left p ≡ false → inherited_package t base p ≡ Ok p
package-kept t base p none = rw (template_if_there-kept base t p none, none) refl

-- a package with a build script and a readme of its own
pub files-own : {M : Type 0} (p : PackageMeaning M) (build : Option File) (readme : File) → any_field_left p ≡ false →
    any_field_left (record p { build = build; readme = Set readme }) ≡ false
files-own p build readme none = search (neither, or_left, or_right) depth 40 fits 4000
