-- The text of a requirement on a version, as `semver` writes it, and which are read from a text.
use Rattle.std.specs.Prelude.{◌≡◌, ◌++◌, ℕ, List, [], ◌∷◌, Option, Some, None, Ok, codes, decimal}
use Rattle.std.specs.List.{flat_map}
use Rattle.semver.specs.Identifiers.{marked}
use Rattle.semver.specs.Parse.{Held, req_of}
use Rattle.semver.specs.declared.Op.{Op}
use Rattle.semver.specs.declared.Op.TheVariants.{Caret, Exact, Greater, GreaterEq, Less, LessEq}
use Rattle.semver.specs.declared.Op.TheVariants.{Tilde, Wildcard}

-- what stands in front of the numbers
abbrev pub sign_of : Op → List ℕ
sign_of Exact = codes "="
sign_of Greater = codes ">"
sign_of GreaterEq = codes ">="
sign_of Less = codes "<"
sign_of LessEq = codes "<="
sign_of Tilde = codes "~"
sign_of Caret = codes "^"
sign_of Wildcard = []

-- what stands for the numbers that are left out
abbrev pub star_of : Op → List ℕ
star_of Wildcard = codes ".*"
star_of _ = []

-- what follows the second number
abbrev pub after_minor : List ℕ → Option ℕ → List ℕ → List ℕ
after_minor star None pre = star
after_minor star (Some patch) pre = codes "." ++ (decimal patch ++ marked 45 pre)

-- what follows the first number
abbrev pub after_major : List ℕ → Option ℕ → Option ℕ → List ℕ → List ℕ
after_major star None patch pre = star
after_major star (Some minor) patch pre = codes "." ++ (decimal minor ++ after_minor star patch pre)

-- a comparator, as `>=1.2.3-pre`
abbrev pub comparator_text : Held → List ℕ
comparator_text c = sign_of c.0 ++ (decimal c.1 ++ after_major (star_of c.0) c.2 c.3 c.4)

-- comparators with `, ` between them; `*` is any version
abbrev pub requirement_text : List Held → List ℕ
requirement_text [] = codes "*"
requirement_text (c ∷ cs) = comparator_text c ++ flat_map (λ d. codes ", " ++ comparator_text d) cs

-- some text is read as these comparators
abbrev pub CanBeRead : List Held → Type 0
CanBeRead held = (text : List ℕ) × (req_of text ≡ Ok held)
