-- Why a call has no answer.
use Rattle.std.specs.Prelude.{◌≡◌, ◌⊎◌, IfSome, IsUtf8, List, codes, map, string_bytes}
use Rattle.std.specs.Prelude.{Err, Ok, Result, String, true, ⊤}
use Rattle.std.specs.declared.alloc.Global.{Global}
use Rattle.std.specs.Str.{trim_end}
use Rattle.serde_json.specs.Data.{Data, array, member, no_members, number, object, string, unsigned}
use Rattle.serde_json.specs.{View.items_of, Written.compact_text}
use Rattle.cargo_toml.specs.{Action.Text, Error.Error, Faults.IsOther, Faults.text_of}
use Rattle.cargo_toml_depth.specs.Nesting.{is_too_deep}
use Rattle.cargo_toml_check.specs.declared.check.Told.{Told}
use Rattle.cargo_toml_answers.specs.declared.refusal.Refusal.{Refusal}
use Rattle.cargo_toml_answers.specs.declared.refusal.Refusal.TheVariants as refusal

-- what is found in a text: the key, where it stands, and what is wrong with it
abbrev pub fault_json : Told → Data
fault_json t = object (member (codes "column") (number (unsigned t.place.1))
    (member (codes "key") (string (string_bytes t.key))
    (member (codes "line") (number (unsigned t.place.0))
    (member (codes "words") (string (trim_end (string_bytes t.words))) no_members))))

abbrev pub faults_json : List Told → Data
faults_json ts = array (items_of (map fault_json ts))

-- the object has words of this kind, and what is found in a text
pub record HasWords (own : Text → Type 0) (json : Text) : Type 0 where
  pub words : Text
  pub said : own words
  pub faults : List Told
  pub written : json ≡ compact_text (object (member (codes "faults") (faults_json faults)
      (member (codes "words") (string words) no_members)))

-- the object has the words of an error, where the library writes them all itself
abbrev pub TellsOf : Error → Text → Type 0
TellsOf e json = HasWords (λ words. IfSome (text_of e) (λ text. words ≡ text)) json

-- the object has words on an argument
abbrev pub TellsArgument : Text → Type 0
TellsArgument json = (words : Text)
    × (json ≡ compact_text (object (member (codes "words") (string words) no_members)))

-- the refusal since an argument isn't meant so, of which `bad` says why, or of a text, whose JSON
-- is such an object
abbrev pub IsRefusal : Type 0 → (Text → Type 0) → Refusal → Type 0
IsRefusal bad tells refusal.Memory = ⊤
IsRefusal bad tells (refusal.Argument json) = bad × TellsArgument (string_bytes json)
IsRefusal bad tells (refusal.Text json) = tells (string_bytes json)

-- the refusal for one of these errors
abbrev pub IsRefusalFor : Type 0 → (Error → Type 0) → Refusal → Type 0
IsRefusalFor bad why r = IsRefusal bad (λ json. (e : Error) × (why e × TellsOf e json)) r

-- why a text isn't read at all: it is no UTF-8, or nests deeper than 128
abbrev pub IsUnread : Text → Error → Type 0
IsUnread text e =
    ((¬ IsUtf8 text) × IsOther (codes "utf8") e)
    ⊎ ((is_too_deep text ≡ true) × IsOther (codes "the text is nested deeper than 128") e)

-- what was made is answered, and a refusal is one for its error
abbrev pub IsAnswered : Result (String Global) Error → Result (String Global) Refusal → Type 0
IsAnswered made (Ok json) = made ≡ Ok json
IsAnswered made (Err r) = IsRefusalFor ⊥ (λ e. made ≡ Err e) r
