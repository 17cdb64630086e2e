-- Which names a pattern matches.
use Rattle.std.specs.Prelude.{◌++◌, ◌&&◌, ◌||◌, ◌==◌, ℕ, Bool, List, [], ◌∷◌, Option, Some, None}
use Rattle.std.specs.Prelude.{true, false, if◌then◌else◌, bytes_eq, codes, fold, length, map}
use Rattle.std.specs.{Prelude.nat_eq, Prelude.nat_le, Prelude.not}
use Rattle.std.specs.List.{list_any, scan, zip}
use Rattle.cargo_toml_audit.specs.declared.members.patterns.Mode.TheVariants.{Brackets, Others}
use Rattle.cargo_toml_audit.specs.declared.members.patterns.Mode.TheVariants.{Plain, Star, Wrong}
use Rattle.cargo_toml_audit.specs.declared.members.patterns.Token.TheVariants.{Just, Many, One}
use Rattle.cargo_toml_audit.specs.declared.members.patterns.Token.TheVariants.{OneOf}
use Rattle.cargo_toml_audit.specs.declared.members.patterns.Mode.{Mode}
use Rattle.cargo_toml_audit.specs.declared.members.patterns.Reading.{Reading}
use Rattle.cargo_toml_audit.specs.declared.members.patterns.Token.{Token}

-- a part of a pattern: any text, any character, one, or one of those in brackets or of all others
pub data Part : Type 0 where
  many : Part
  one : Part
  just : ℕ → Part
  one_of : Bool → List ℕ → Part

abbrev pub part_of : Token → Part
part_of Many = many
part_of One = one
part_of (Just c) = just c
part_of (OneOf others content) = one_of others content.items

-- a dot is 46
abbrev pub begins_with_dot : List Part → Bool
begins_with_dot (just c ∷ pattern) = c == 46
begins_with_dot _ = false

-- ---- what a pattern matches

-- what stands in brackets has a character: one by one, and `-` (45) between two makes a range
abbrev pub is_among : List ℕ → ℕ → Bool
is_among [] c = false
is_among (first ∷ next ∷ last ∷ others) c =
    if nat_eq next 45 then (nat_le first c && nat_le c last) || is_among others c
    else nat_eq first c || is_among (next ∷ last ∷ others) c
is_among (first ∷ others) c = nat_eq first c || is_among others c

abbrev pub accepts : Part → ℕ → Bool
accepts many c = true
accepts one c = true
accepts (just own) c = nat_eq own c
accepts (one_of others content) c = if others then not (is_among content c) else is_among content c

-- a text, and what is left of it after each of its characters
abbrev pub ends : List ℕ → List (List ℕ)
ends [] = [] ∷ []
ends (c ∷ cs) = (c ∷ cs) ∷ ends cs

-- whether a text begins with a character that is wanted, and the rest passes
abbrev pub after_one : Part → (List ℕ → Bool) → List ℕ → Bool
after_one wanted rest [] = false
after_one wanted rest (c ∷ cs) = accepts wanted c && rest cs

-- whether some end of a text passes
abbrev pub after_any : (List ℕ → Bool) → List ℕ → Bool
after_any rest cs = list_any rest (ends cs)

abbrev pub is_empty : List ℕ → Bool
is_empty [] = true
is_empty (c ∷ cs) = false

abbrev pub is_many : Part → Bool
is_many many = true
is_many _ = false

abbrev pub begins : Bool → Part → (List ℕ → Bool) → List ℕ → Bool
begins true wanted rest = after_any rest
begins false wanted rest = after_one wanted rest

-- whether a pattern matches a text as a whole
abbrev pub matches : List Part → List ℕ → Bool
matches [] = is_empty
matches (wanted ∷ pattern) = begins (is_many wanted) wanted (matches pattern)

-- ---- how a pattern is read

-- what has been read of one: its parts, what stands in open brackets, and where it goes on
pub record Read : Type 0 where
  pub parts : List Part
  pub content : List ℕ
  pub mode : Mode

abbrev pub read_of : Reading → Read
read_of r = record { parts = map part_of r.tokens.items; content = r.content.items; mode = r.mode }

abbrev pub with_part : Read → Part → Mode → Read
with_part r part mode = record { parts = r.parts ++ part ∷ []; content = r.content; mode = mode }

-- outside brackets: `*` is 42, `?` 63 and `[` 91. Cargo takes two stars for no pattern
abbrev pub read_plain : Bool → Read → ℕ → Read
read_plain is_star r c =
    if c == 42 then (if is_star then record r { mode = Wrong } else with_part r many Star)
    else (if c == 63 then with_part r one Plain
    else (if c == 91 then record r { mode = Brackets } else with_part r (just c) Plain))

-- in brackets: `!` (33) in front takes all others, and they close with the first `]` (93) behind
-- their first character
abbrev pub read_in_brackets : Bool → Read → ℕ → Read
read_in_brackets is_other r c =
    if length r.content == 0
    then (if (c == 33) && not is_other then record r { mode = Others }
    else record r { content = r.content ++ c ∷ [] })
    else (if c == 93
    then record { parts = r.parts ++ one_of is_other r.content ∷ []; content = []; mode = Plain }
    else record r { content = r.content ++ c ∷ [] })

abbrev pub read_by : Mode → Read → ℕ → Read
read_by Plain = read_plain false
read_by Star = read_plain true
read_by Brackets = read_in_brackets false
read_by Others = read_in_brackets true
read_by Wrong = λ r c. r

abbrev pub read_more : Read → ℕ → Read
read_more r c = read_by r.mode r c

abbrev pub read_all : List ℕ → Read
read_all cs = fold read_more (record { parts = []; content = []; mode = Plain }) cs

-- the parts of a pattern that was read to its end; none where brackets are open
abbrev pub parts_if : Mode → List Part → Option (List Part)
parts_if Plain parts = Some parts
parts_if Star parts = Some parts
parts_if _ parts = None

abbrev pub parts_of : List ℕ → Option (List Part)
parts_of cs = parts_if (read_all cs).mode (read_all cs).parts

-- ---- the names of an entry

-- a name that stands for any folders: `**`
abbrev pub is_deep : List ℕ → Bool
is_deep name = bytes_eq name (codes "**")

-- a name that is a pattern: `*`, `?` or `[` stands in it
abbrev pub is_sign : ℕ → Bool
is_sign b = (nat_eq b 42 || nat_eq b 63) || nat_eq b 91

abbrev pub is_pattern : List ℕ → Bool
is_pattern name = list_any is_sign name

-- ---- the code's own steps: nothing here has to be believed

-- of tests at all ends of a text, from the shortest on: the row with one more part of the pattern
abbrev pub next : Bool → Part → List Bool → List ℕ → List Bool
next true wanted reached cs =
    scan (λ some here. some || here) (λ some here. some || here) false reached
next false wanted reached cs = false ∷ map (λ p. p.0 && accepts wanted p.1) (zip reached cs)
