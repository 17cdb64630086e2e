-- The files of a package as an archive lists them, and what is stated of them.
use Rattle.std.specs.Prelude.{◌≡◌, ◌⊎◌, ◌-◌, ◌∷◌, ℕ, Bool, Err, List, None, Option, Some, []}
use Rattle.std.specs.Prelude.{codes, drop, filter, if◌then◌else◌, length, map, nat_eq, nat_lt}
use Rattle.std.specs.Prelude.{option_and_then, take}
use Rattle.std.specs.List.{ends_with, filter_map, list_any, slice_split, starts_with}
use Rattle.std.specs.{BTreeSet.BTreeSet, BTreeSet.contains_text, Prelude.String, Prelude.is_some}
use Rattle.std.specs.Prelude.{string_bytes}
use Rattle.std.specs.declared.alloc.Global.{Global}
use Rattle.toml.specs.{Data.Data, Parse.parse_document, View.view}
use Rattle.toml.specs.declared.value.Value.{Value}
use Rattle.cargo_toml.specs.{Action.Text, FaultValues.other, Manifests.ManifestMeaning}
use Rattle.cargo_toml.specs.Manifests.{held, manifest_meaning, manifest_reads}
use Rattle.cargo_toml.specs.{Completed.IsCompleted, Completing.Meets, Completing.complete}
use Rattle.cargo_toml.specs.{Error.Error, Manifest.Manifest, Names.has_text, Names.in_folder}
use Rattle.cargo_toml.specs.RealFiles.{any_root}
use Rattle.cargo_toml.specs.{Names.is_source, Settings.named, Texts.any_tree}
use Rattle.cargo_toml.specs.Texts.{document_reads}
use Rattle.cargo_toml.specs.Told.{ToldRoot, no_root, root}
use Rattle.cargo_toml.specs.ToldFolders.{Told, denied, names}
use Rattle.cargo_toml_check.specs.Shown.{IsUnshown}
use Rattle.cargo_toml_answers.specs.Answered.{IsShownIn}
use Rattle.cargo_toml_answers.specs.declared.archive.TheConstants.{MAX_TARGETS}

-- what ends a path: NUL where there is one, and else a line feed
abbrev pub is_end : Text → ℕ → Bool
is_end text b = nat_eq b (if list_any (λ c. nat_eq c 0) text then 0 else 10)

-- the paths that a text lists
abbrev pub paths_of : Text → List Text
paths_of text = slice_split (is_end text) text

-- the set has just these
abbrev pub AreFiles : List Text → BTreeSet (String Global) → Type 0
AreFiles paths files = (path : Text) → contains_text files path ≡ has_text paths path

-- the rest of a text that begins so, and what stands before one's end
abbrev pub after : Text → Text → Option Text
after begin text =
    if starts_with nat_eq text begin then Some (drop (length begin) text) else None

abbrev pub before : Text → Text → Option Text
before end text =
    if ends_with nat_eq text end then Some (take (length text - length end) text) else None

-- a name of no folder within another
abbrev pub plain_name : Text → Option Text
plain_name name = if list_any (λ b. nat_eq b 47) name then None else Some name

-- the target that a path is the file of: `NAME.rs`, or `NAME` of `NAME/main.rs`
abbrev pub source_name : Option Text → Text → Option Text
source_name (Some name) path = plain_name name
source_name None path = if is_source path then plain_name path else None

abbrev pub target_name : Text → Option Text
target_name path = source_name (before (codes "/main.rs") path) path

-- the same in a folder, which is told with a `/` at its end
abbrev pub target_in : Text → Text → Option Text
target_in folder path = option_and_then target_name (after folder path)

-- the folder with a `/` at its end, where its files are targets
abbrev pub holds_targets : Text → Option Text
holds_targets folder = named ((codes "src/bin", codes "src/bin/")
    ∷ (codes "examples", codes "examples/") ∷ (codes "tests", codes "tests/")
    ∷ (codes "benches", codes "benches/") ∷ []) folder

abbrev pub texts_of : BTreeSet (String Global) → List Text
texts_of files = map string_bytes files.keys

abbrev pub targets_in : Text → List Text → List Text
targets_in folder paths = filter_map (target_in folder) paths

-- the names that discovery looks for in other folders
abbrev pub looked_for : List Text
looked_for = codes "README" ∷ codes "README.md" ∷ codes "README.txt" ∷ codes "build.rs"
    ∷ codes "lib.rs" ∷ codes "main.rs" ∷ []

abbrev pub path_in : Text → Text → Text
path_in [] name = name
path_in (b ∷ bs) name = in_folder (b ∷ bs) name

-- the name stands in a folder
abbrev pub stands_in : BTreeSet (String Global) → Text → Text → Bool
stands_in files folder name = contains_text files (path_in folder name)

-- the targets in a folder, unless these are too many
abbrev pub told_targets : List Text → Told
told_targets targets =
    if nat_lt MAX_TARGETS (length targets)
    then denied (other (codes "a folder with too many targets")) else names targets

-- what is stated of a folder: its targets, or else which names stand there that are looked for. So
-- no folder is absent
abbrev pub told_of : BTreeSet (String Global) → Text → Option Text → Told
told_of files folder (Some targets) = told_targets (targets_in targets (texts_of files))
told_of files folder None = names (filter (stands_in files folder) looked_for)

abbrev pub told_in : BTreeSet (String Global) → Text → Told
told_in files folder = told_of files folder (holds_targets folder)

-- the text of the root of a workspace and its path, which is empty where none is told
abbrev pub given : Text → Text → Option (Text × Text)
given text [] = None
given text (b ∷ bs) = Some (text, b ∷ bs)

-- the manifest of a text, where it has a workspace
abbrev pub told_workspace : Option (ManifestMeaning Data) → Text → ToldRoot
told_workspace None path = no_root
told_workspace (Some m) path = if is_some m.workspace then root m path else no_root

-- the root of the workspace, wherever it is looked for
abbrev pub told_root : Option (Text × Text) → ToldRoot
told_root None = no_root
told_root (Some r) =
    told_workspace (document_reads (manifest_reads any_tree) (parse_document r.0)) r.1

-- the object of what the manifest is completed to among the files of these paths, and from this
-- workspace
pub record CompletesTo (paths : Text) (workspace : Option (Text × Text)) (m : Manifest Value)
    (shown : Text) : Type 0 where
  pub files : BTreeSet (String Global)
  pub listed : AreFiles (paths_of paths) files
  pub new : Manifest Value
  pub completed : IsCompleted m None (λ _. told_root workspace) any_root (told_in files) new
  pub exact : IsShownIn (manifest_meaning view new) shown

-- why it isn't: a fault of completion, or what it is completed to isn't shown
pub record IsUncompleted (paths : Text) (workspace : Option (Text × Text)) (m : Manifest Value)
    (e : Error) : Type 0 where
  pub files : BTreeSet (String Global)
  pub listed : AreFiles (paths_of paths) files
  pub refused :
      Meets {T = Manifest Value} held
      (complete (held m) None (λ _. told_root workspace) (told_in files)) (Err e)
      ⊎ ((new : Manifest Value)
      × (IsCompleted m None (λ _. told_root workspace) any_root (told_in files) new
      × IsUnshown (manifest_meaning view new) e))
