-- The folders that entries of `members` lead to, by what the system answers of paths.
use Rattle.std.specs.Prelude.{◌≡◌, ◌++◌, ◌&&◌, ◌||◌, ◌==◌, ℕ, suc, zero, Bool, true, false, List}
use Rattle.std.specs.Prelude.{[], Some, ◌∷◌, Err, Ok, Result, String, codes, filter, if◌then◌else◌}
use Rattle.std.specs.Prelude.{is_none, length, map, nat_eq, nat_lt, not, string_bytes, unwrap_or}
use Rattle.std.specs.declared.io.Error.{Error as IoError}
use Rattle.std.specs.{Bool.beq, BTreeMap.get_by_text, Fs.file_type, IoError.error_kind}
use Rattle.std.specs.{List.flat_map, List.list_any, Option.option_map_or, Path.path_join, Str.chars}
use Rattle.std.specs.{declared.alloc.Global.Global, declared.fs.attrs.Metadata.Metadata}
use Rattle.cargo_toml.specs.{Action.Text, RealFiles.is_absent}
use Rattle.cargo_toml_audit.specs.Places.{begins_at, is_in, normalized, pieces, place_of}
use Rattle.cargo_toml_audit.specs.declared.members.walk.There.TheVariants.{Folder, Nothing, Other}
use Rattle.cargo_toml_audit.specs.declared.members.walk.There.TheVariants.{Unknown, Unseen}
use Rattle.cargo_toml_audit.specs.{Patterns.begins_with_dot, declared.members.walk.Listing.Listing}
use Rattle.cargo_toml_audit.specs.{Patterns.is_pattern, declared.members.walk.Looks.Looks}
use Rattle.cargo_toml_audit.specs.{Patterns.parts_of, declared.members.walk.There.There}
use Rattle.cargo_toml_audit.specs.{Patterns.Part, Patterns.is_deep, Patterns.matches}

-- what lies at a path, by what the system answers of it
abbrev pub by_found : Metadata → There
by_found found = if nat_eq (file_type found).bits 0o040000 then Folder else Other

-- by whether nothing was found, and what the system answers of a link there
abbrev pub by_link : Bool → Result Metadata IoError → There
by_link true (Ok link) = Other
by_link false (Ok link) = Unseen
by_link none (Err fault) = if is_absent (error_kind fault) then Nothing else Unknown

-- a disk: what lies at a path, and the names of what lies in a folder
pub record Disk : Type 0 where
  pub there : Text → There
  pub names : Text → List Text

abbrev pub is_folder : There → Bool
is_folder Folder = true
is_folder _ = false

-- a name that is no pattern leads nowhere, by what lies there
abbrev pub is_nothing : There → Bool
is_nothing Nothing = true
is_nothing Unknown = true
is_nothing _ = false

-- ---- where an entry leads

-- the paths of what has such a name in a folder
abbrev pub named_so : Text → List Part → List Text → List Text
named_so folder pattern names =
    map (path_join folder) (filter (λ name. matches pattern (chars name)) names)

abbrev pub with_dots : Bool → List Text → List Text
with_dots wanted names = names ++ (if wanted then codes "." ∷ codes ".." ∷ [] else [])

-- a name that stands for itself; and one that leads no further: `**`, or the empty one right behind
-- that where no other follows
abbrev pub is_plain : Bool → Text → Bool
is_plain behind_deep name = not behind_deep && not (is_pattern name)

abbrev pub skips : Bool → Text → List Text → Bool
skips behind_deep name others =
    is_deep name || ((behind_deep && (length name == 0)) && (length others == 0))

-- a folder, and those that lie below it
abbrev pub with_itself : (Text → List Text) → Text → List Text
with_itself lying_below folder = folder ∷ lying_below folder

module _ (d : Disk) where
  -- the folders that lie right in one
  abbrev pub subfolders : Text → List Text
  subfolders folder =
      if is_folder (d.there folder)
      then filter (λ p. is_folder (d.there p)) (map (path_join folder) (d.names folder)) else []

  -- those below a folder, so many levels of them
  abbrev pub below : ℕ → Text → List Text
  below zero folder = []
  below (suc n) folder = flat_map (with_itself (below n)) (subfolders folder)

  unfoldable pub all_below : Text → List Text
  all_below folder = below 2048 folder

  -- a pattern that begins with a dot stands for `.` and `..` too, but not right behind `**`
  abbrev pub matched : Bool → List Part → Text → List Text
  matched behind_deep pattern folder =
      if is_folder (d.there folder) then named_so folder pattern
      (with_dots (not behind_deep && begins_with_dot pattern) (d.names folder)) else []

  -- what a name leads to in a folder: itself, where something is there, or what its pattern matches
  abbrev pub further_in : Bool → Text → Text → List Text
  further_in behind_deep name folder =
      if is_plain behind_deep name
      then (if is_nothing (d.there (path_join folder name)) then [] else path_join folder name ∷ [])
      else option_map_or (λ pattern. matched behind_deep pattern folder) (parts_of (chars name)) []

  -- right behind `**` from the folder and all below it
  abbrev pub further : Bool → Text → Text → List Text
  further behind_deep name folder =
      if behind_deep then flat_map (further_in true name) (with_itself all_below folder)
      else further_in false name folder

  -- where names end: right behind `**` at all below the folder
  abbrev pub ended : Bool → Text → List Text
  ended behind_deep folder = if behind_deep then all_below folder else folder ∷ []

  -- what names lead to from a folder, one after the other
  abbrev pub led : Bool → List Text → Text → List Text
  led behind_deep [] folder = ended behind_deep folder
  led behind_deep (name ∷ names) folder =
      if skips behind_deep name names then led true names folder
      else flat_map (led false names) (further behind_deep name folder)

  abbrev pub led_to : Text → Text → List Text
  led_to root entry = led false (pieces entry) (begins_at root entry)

  abbrev pub place_if : Text → List Text
  place_if path = if is_folder (d.there path) then normalized false path ∷ [] else []

  -- the folders among that, or the entry itself where nothing lies there
  abbrev pub places_of : Text → Text → List Text
  places_of root entry =
      if length (led_to root entry) == 0 then place_of root entry ∷ []
      else flat_map place_if (led_to root entry)

-- ---- what was asked and answered

-- a disk answers so
pub record Agrees (d : Disk) (looks : Looks) : Type 0 where
  pub there : (path : Text) (t : There) → get_by_text looks.there path ≡ Some t → d.there path ≡ t
  pub names : (path : Text) (l : Listing) → get_by_text looks.names path ≡ Some l
      → d.names path ≡ map string_bytes l.names.items

-- the disk that has just what was answered, and nothing else
abbrev pub disk_of : Looks → Disk
disk_of looks = record {
  there = λ path. unwrap_or (get_by_text looks.there path) Nothing;
  names = λ path.
      option_map_or (λ l. map string_bytes l.names.items) (get_by_text looks.names path) [];
}

-- each disk that agrees with the new answers agrees with the old ones, and this holds of it
abbrev pub OnDisks : (Disk → Type 0) → Looks → Looks → Type 0
OnDisks holds old new = (d : Disk) → Agrees d new → Agrees d old × holds d

-- it gives this value
abbrev pub Tells : {A : Type 0} → (Disk → A) → Looks → Looks → A → Type 0
Tells of old new value = OnDisks (λ d. value ≡ of d) old new

-- ---- entries that are no patterns, and what stands twice

-- Cargo can't read the name: it is no `**`, and has no parts
abbrev pub is_wrong_name : Text → Bool
is_wrong_name name = not (is_deep name) && is_none (parts_of (chars name))

-- Cargo can't read one of the entry's names
abbrev pub has_wrong_name : Text → Bool
has_wrong_name entry = list_any is_wrong_name (pieces entry)

-- the entry has such a name, or is longer than any path
abbrev pub is_wrong : Text → Bool
is_wrong entry = nat_lt 4096 (length entry) || has_wrong_name entry

abbrev pub places_if_right : Disk → Text → Text → List Text
places_if_right d root entry = if is_wrong entry then [] else places_of d root entry

-- where `again` is set, the texts of a list that stand in others or before in it; else the rest
abbrev pub picked : Bool → List Text → List Text → List Text
picked again before [] = []
picked again before (t ∷ ts) =
    (if beq (is_in before t) again then t ∷ [] else []) ++ picked again (before ++ t ∷ []) ts

abbrev pub repeats : List Text → List Text
repeats ts = picked true [] ts

-- the places of an entry, each once
abbrev pub places_once : Disk → Text → Text → List Text
places_once d root entry = picked false [] (places_if_right d root entry)

-- what couldn't be looked at, or read to its end
abbrev pub is_unseen : There → Bool
is_unseen Unseen = true
is_unseen Unknown = true
is_unseen _ = false

abbrev pub unseen_in : List (String Global × There) → List Text
unseen_in es = map (λ e. string_bytes e.0) (filter (λ e. is_unseen e.1) es)

abbrev pub unread_in : List (String Global × Listing) → List Text
unread_in es = map (λ e. string_bytes e.0) (filter (λ e. not e.1.is_whole) es)

abbrev pub unseen : Looks → List Text
unseen looks = unseen_in looks.there.entries ++ unread_in looks.names.entries
