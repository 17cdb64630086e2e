-- The files of an index: what their lines say, and what is added to them; and checksums by name.
use Rattle.std.specs.Prelude.{◌++◌, ◌-◌, ◌&&◌, ◌==◌, ◌∷◌, ◌||◌, Bool, List, None, Option, Some}
use Rattle.std.specs.Prelude.{[], bytes_eq, codes, false, if◌then◌else◌, length, option_and_then}
use Rattle.std.specs.Prelude.{option_map, option_to_list, slice_index, string_bytes, true}
use Rattle.std.specs.Prelude.{unwrap_or}
use Rattle.std.specs.List.{after_first, before_first, flat_map, list_all, slice_split}
use Rattle.std.specs.{Option.option_or, Prelude.is_some}
use Rattle.std.specs.Path.{path_file_name}
use Rattle.serde_json.specs.Data.{Data, array, boolean, null, number, object, put, string}
use Rattle.serde_json.specs.{Find.as_bool, Find.as_str, Find.get, Read.read, Written.compact_text}
use Rattle.serde_json.specs.Written.{has_float}
use Rattle.cargo_toml.specs.Action.{Text}
use Rattle.cargo_toml_tools.specs.Asked.{is_checksum}
use Rattle.cargo_toml_check.specs.declared.registry.entries.{Line.Line, Said.Said}
use Rattle.cargo_toml_check.specs.declared.registry.joining.Place.{Place}
use Rattle.cargo_toml_check.specs.declared.registry.joining.Place.TheVariants.{New, Other, There}

-- what the last of these has under a name
abbrev pub latest : {A : Type 0} → List (Text × A) → Text → Option A
latest [] name = None
latest (e ∷ es) name = option_or (latest es name) (if bytes_eq e.0 name then Some e.1 else None)

-- ---- checksums

-- the path in a line of `sha256sum`, which has a space or a star before it
abbrev pub unmarked : Text → Text
unmarked [] = []
unmarked (b ∷ bs) = if b == 32 || b == 42 then bs else b ∷ bs

-- the name of a file, and its checksum, in such a line: that stands before the first space
abbrev pub sum_in : Text → Option (Text × Text)
sum_in line =
    if is_checksum (before_first (λ b. b == 32) line)
    then option_map (λ n. (n, before_first (λ b. b == 32) line))
    (path_file_name (unmarked (after_first (λ b. b == 32) line))) else None

abbrev pub sums_in : List Text → List (Text × Text)
sums_in lines = flat_map (λ l. option_to_list (sum_in l)) lines

-- ---- what a line says

-- a version without its build metadata
abbrev pub released : Text → Text
released version = before_first (λ b. b == 43) version

-- the value as it is where it isn't yanked
abbrev pub unyanked : Data → Data
unyanked (object ms) = object (put (codes "yanked") (boolean false) ms)
unyanked d = d

-- what a line says: all but `yanked` is one text, whatever the order of its keys and its spaces
pub record Entry : Type 0 where
  pub name : Text
  pub version : Text
  pub yanked : Bool
  pub all : Text

abbrev pub text_at : Text → Data → Option Text
text_at key d = option_and_then as_str (get key d)

abbrev pub entry_in : Data → Option Entry
entry_in d =
    option_and_then (λ n. option_map (λ v. record {
      name = n;
      version = v;
      yanked = unwrap_or (option_and_then as_bool (get (codes "yanked") d)) false;
      all = compact_text (unyanked d);
    }) (text_at (codes "vers") d)) (text_at (codes "name") d)

-- that of JSON with a name and a version, in which no float stands
abbrev pub entry : Text → Option Entry
entry line = option_and_then (λ d. if has_float d then None else entry_in d) (read line)

-- the version that a line has of this crate, without build metadata, and what it says of it
abbrev pub version_in : Text → Text → Option (Text × Text)
version_in name line =
    option_and_then (λ e. if bytes_eq e.name name then Some (released e.version, e.all) else None)
    (entry line)

-- whether each line has a version of this crate
abbrev pub are_of : Text → List Text → Bool
are_of name lines = list_all (λ l. is_some (version_in name l)) lines

abbrev pub versions : Text → List Text → List (Text × Text)
versions name lines = flat_map (λ l. option_to_list (version_in name l)) lines

-- ---- what is added

abbrev pub entry_of : Said → Entry
entry_of s = record {
  name = string_bytes s.name;
  version = string_bytes s.version;
  yanked = s.yanked;
  all = string_bytes s.all;
}

-- what becomes of a line, where this is said of its version
abbrev pub place : Option Text → Text → Place
place None all = New
place (Some there) all = if bytes_eq there all then There else Other

abbrev pub placed : (Text → Option Text) → Line → Place
placed there l = place (there (released (string_bytes l.said.version))) (string_bytes l.said.all)

abbrev pub is_new : Place → Bool
is_new New = true
is_new There = false
is_new Other = false

-- what is added of a line
abbrev pub added : (Text → Option Text) → Line → Text
added there l = if is_new (placed there l) then string_bytes l.text ++ 10 ∷ [] else []

-- the text with the end of its last line
abbrev pub ended : Text → Text
ended text =
    if length text == 0 || slice_index text (length text - 1) == 10 then text else text ++ 10 ∷ []

-- ---- yanking

-- what stands between the line feeds of a text
abbrev pub parts : Text → List Text
parts text = slice_split (λ b. b == 10) text

-- what a line says once this version is yanked, or is no more
abbrev pub marked : Text → Text → Bool → Option Entry → Option Entry
marked name version yanked said =
    option_map (λ e. if bytes_eq e.name name && bytes_eq e.version version
    then record e { yanked = yanked } else e) said
