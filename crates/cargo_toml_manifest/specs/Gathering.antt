-- How names are gathered that discovery needs: what is kept is what was answered, and all that is
-- needed is kept.
use Rattle.std.specs.Prelude.{◌≡◌, Bool, true, false, List, [], ◌∷◌, Some}
use Rattle.std.specs.Prelude.{is_some, codes, String, Result, Ok, Err, MatchResult, ◌⊎◌}
use Rattle.std.specs.BTreeSet.{BTreeSet, IsOrdered, contains_text}
use Rattle.std.specs.HashSet.{HashSet, contains_text as has_in}
use Rattle.std.specs.{String.string_cmp, declared.alloc.Global.Global}
use Rattle.std.specs.declared.io.ErrorKind.TheVariants.{NotFound}
use Rattle.cargo_toml_parts.specs.declared.error.Error.{Error, Memory}
use Rattle.cargo_toml_parts.specs.FaultValues.{Fault, fault_of, io}
use Rattle.cargo_toml_discovery.specs.Answers.{Answers, answer_at, names_in}
use Rattle.cargo_toml_discovery.specs.Answers.{below, filled, filled_by, texts_in}
use Rattle.cargo_toml_discovery.specs.Names.{Name}
use Rattle.cargo_toml_discovery.specs.Seen.{seen, names_at, root_names, MayTell, Tells}
use Rattle.cargo_toml_discovery.specs.Told.{Told}
use Rattle.cargo_toml_discovery.specs.declared.listings.Wanted.{Wanted}

-- the names are an answer by what is stated
abbrev pub AnswerFits : Told → List Name → Type 0
AnswerFits t ns = names_at (filled_by t (Some ns)) ≡ seen ns

abbrev pub Fits : (Name → Told) → Answers → Type 0
Fits told ans = (p : Name) (ns : List Name) → answer_at ans p ≡ Some ns → AnswerFits (told p) ns

-- answers stay, and those that fit go on to fit
abbrev pub Grows : (Name → Told) → Answers → Answers → Type 0
Grows told old new =
    ((p : Name) (ns : List Name) → answer_at old p ≡ Some ns → answer_at new p ≡ Some ns)
    × (Fits told old → Fits told new)

abbrev pub Has : Answers → Name → Type 0
Has ans p = is_some (answer_at ans p) ≡ true

abbrev pub HasEach : Answers → List Name → Type 0
HasEach ans [] = Unit {0}
HasEach ans (p ∷ ps) = Has ans p × HasEach ans ps

-- a folder of products, if it is wanted, and each folder in it
abbrev pub HasProducts : Bool → Name → Answers → Type 0
HasProducts false folder ans = Unit {0}
HasProducts true folder ans = Has ans folder × HasEach ans (below folder (names_in ans folder))

-- the folder of the package is there and its names are kept
abbrev pub HasRoot : (Name → Told) → Answers → Type 0
HasRoot told ans = root_names (filled told ans []) ≡ seen (names_in ans [])

-- every path that a package asks for is kept, except its own folder, where its lists of these kinds
-- are wanted
abbrev pub HasAll : Wanted → Answers → Type 0
HasAll wanted ans =
    Has ans (codes "src")
    × (HasProducts wanted.bins (codes "src/bin") ans
    × (HasProducts wanted.examples (codes "examples") ans
    × (HasProducts wanted.tests (codes "tests") ans
    × HasProducts wanted.benches (codes "benches") ans)))

-- the fault may be reported at one of these
abbrev pub MayTellOneOf : (Name → Told) → List Name → Fault → Type 0
MayTellOneOf told [] f = ⊥
MayTellOneOf told (p ∷ ps) f = MayTell (names_at (told p)) f ⊎ MayTellOneOf told ps f

-- the set has the names that were answered, in order
abbrev pub Sorts : {S : Type 0} → HashSet (String Global) S → BTreeSet (String Global) → Type 0
Sorts set s = IsOrdered string_cmp s × ((x : Name) → contains_text s x ≡ has_in set x)

-- the names of what was answered for a folder: none where its fault says that the folder isn't
-- there; any other fault stays
abbrev pub IsHeard : {S : Type 0} → Result (HashSet (String Global) S) Error
    → Result (BTreeSet (String Global)) Error → Type 0
IsHeard (Ok set) (Ok s) = Sorts set s
IsHeard (Ok set) (Err e) = e ≡ Memory
IsHeard (Err fault) (Ok s) = (fault_of fault ≡ io NotFound) × (texts_in s ≡ [])
IsHeard (Err fault) (Err e) = (e ≡ fault) × ¬ (fault_of fault ≡ io NotFound)

-- the answer to the question for the names in a folder, in order; an absent one counts as empty
abbrev pub Listed : Told → Result (BTreeSet (String Global)) Error → Type 0
Listed t r = MatchResult r (λ s. AnswerFits t (texts_in s)) (λ e. Tells (names_at t) e)

-- the same for the folder of the package, which must be there
abbrev pub RootListed : Told → Result (BTreeSet (String Global)) Error → Type 0
RootListed t r =
    MatchResult r (λ s. root_names (filled_by t (Some (texts_in s))) ≡ seen (texts_in s))
    (λ e. Tells (root_names t) e)
