-- What the words of the command line ask for.
use Rattle.std.specs.Prelude.{◌≡◌, ◌⊎◌, ◌≤◌, ℕ, List, [], ◌∷◌, length, codes, ⊤}
use Rattle.std.specs.Str.Parse.{IsNumeral, digits_value}
use Rattle.cargo_toml_features.specs.declared.admit.TheConstants.{MAX_ITEMS}
use Rattle.cargo_toml_program.specs.declared.arguments.Command.{Command}
use Rattle.cargo_toml_program.specs.declared.arguments.Command.TheVariants.{Features, Complete}

-- the word is one to five digits, of which the first ones may be zeros, and these write the number
-- n, from 1 to 65535
pub record IsLimit (word : List ℕ) (n : ℕ) : Type 0 where
  pub digits : IsNumeral 10 word
  pub short : length word ≤ 5
  pub value : n ≡ digits_value 10 word
  pub least : 1 ≤ n
  pub greatest : n ≤ 65535

-- the words ask for the command: a verb and a file, and perhaps between them the limit of items; it
-- is that of a new resolver otherwise
abbrev pub AskFor : List (List ℕ) → Command → Type 0
AskFor words (Features file n) =
    ((words ≡ codes "features" ∷ file.now ∷ []) × (n ≡ MAX_ITEMS))
    ⊎ ((word : List ℕ) × (words ≡ codes "features" ∷ codes "--max" ∷ word ∷ file.now ∷ [])
    × IsLimit word n)
AskFor words (Complete file) = words ≡ codes "complete" ∷ file.now ∷ []

-- the command's limit of items, where it has one, is at least 1, as that of a resolver
abbrev pub HasLimit : Command → Type 0
HasLimit (Features file n) = 1 ≤ n
HasLimit (Complete file) = ⊤
