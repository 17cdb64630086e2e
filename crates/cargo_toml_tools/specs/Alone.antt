-- Manifests that are completed from their texts and the names in folders beside them alone, and
-- those of which it is said whether they are.
use Rattle.std.specs.Prelude.{◌≡◌, ◌⊎◌, Bool, true, false, None, Option, Some, if◌then◌else◌}
use Rattle.std.specs.{Prelude.is_some, Path.path_parent}
use Rattle.toml.specs.declared.value.Value.{Value}
use Rattle.cargo_toml.specs.Choosing.{MayFind, RootsTold}
use Rattle.cargo_toml.specs.FaultValues.{Fault, fault_of, workspace_integrity}
use Rattle.cargo_toml.specs.Manifests.{ManifestMeaning, held}
use Rattle.cargo_toml.specs.RealFiles.{RealListingRefuses, bad_path, real_folders}
use Rattle.cargo_toml.specs.{Action.Text, Completed.IsCompleted, Error.Error, Error.Memory}
use Rattle.cargo_toml.specs.{Manifest.Manifest, Names.Name, Refusing.IsRefusedBy, Told.no_root}
use Rattle.cargo_toml.specs.{ToldFolders.Told}
use Rattle.cargo_toml_tools.specs.FromFiles.{IsCompletedIn, IsManifestIn, IsUncompleted}
use Rattle.cargo_toml_tools.specs.FromFiles.{RefusesText}
use Rattle.cargo_toml_tools.specs.{Left.Left, Left.first_left, Left.left_words}
use Rattle.cargo_toml_tools.specs.declared.files.alone.Source.{Source}

-- it is told of each root of a workspace that there is none, and none may be found
abbrev pub no_roots : RootsTold
no_roots hint = no_root

abbrev pub no_root_found : MayFind
no_root_found hint m path = ⊥

-- the first key that a manifest leaves to a workspace, where it has none of its own
abbrev pub needed : {M : Type 0} → ManifestMeaning M → Option Left
needed m = if is_some m.workspace then None else first_left m

-- the manifest needs no workspace but its own, and completion makes it into this one by the names
-- in folders alone
pub record IsMadeBeside (old : Manifest Value) (told : Name → Told) (new : Manifest Value) : Type 0
  where
    pub needs_none : needed (held old) ≡ None
    pub completed : IsCompleted old None no_roots no_root_found told new

-- why that is refused: no memory, the key that it needs a workspace for, or else a fault of its own
-- workspace, or one in place of names
abbrev pub IsRefusedFor : Option Left → Manifest Value → (Text → Fault → Type 0) → Error → Type 0
IsRefusedFor (Some left) m names e =
    (e ≡ Memory) ⊎ (fault_of e ≡ workspace_integrity (left_words left))
IsRefusedFor None m names e =
    IsRefusedBy (held m) None no_roots no_root_found (λ _ _. ⊥) names e

abbrev pub IsRefusedAlone : Manifest Value → (Text → Fault → Type 0) → Error → Type 0
IsRefusedAlone m names e = IsRefusedFor (needed (held m)) m names e

-- the text reads as a manifest that is made into this one
pub record IsCompletedBeside (text : Text) (told : Name → Told) (new : Manifest Value) : Type 0
  where
    pub read : Manifest Value
    pub written : IsManifestIn text read
    pub made : IsMadeBeside read told new

-- why a text gives none
abbrev pub IsUncompletedBeside : Text → (Text → Fault → Type 0) → Error → Type 0
IsUncompletedBeside text names e =
    RefusesText text e
    ⊎ ((read : Manifest Value) × (IsManifestIn text read × IsRefusedAlone read names e))

-- the same by the names in folders on the disk, of which nothing is stated
abbrev pub IsCompletedAlone : Text → Manifest Value → Type 0
IsCompletedAlone text new = IsCompletedBeside text real_folders new

abbrev pub IsUncompletedAlone : Text → Text → Error → Type 0
IsUncompletedAlone path text e =
    ((path_parent path ≡ None) × (fault_of e ≡ bad_path))
    ⊎ IsUncompletedBeside text RealListingRefuses e

-- the manifest is the one of a text, completed alone where that is said, and else among files
abbrev pub IsCompletedIf : Bool → Text → Text → Manifest Value → Type 0
IsCompletedIf true path text new = IsCompletedAlone text new
IsCompletedIf false path text new = IsCompletedIn path text new

abbrev pub IsCompletedFrom : Source → Manifest Value → Type 0
IsCompletedFrom s new = IsCompletedIf s.is_alone s.path.now s.text.now new

-- why there is none
abbrev pub IsUncompletedIf : Bool → Text → Text → Error → Type 0
IsUncompletedIf true path text e = IsUncompletedAlone path text e
IsUncompletedIf false path text e = IsUncompleted path text e

abbrev pub IsUncompletedFrom : Source → Error → Type 0
IsUncompletedFrom s e = IsUncompletedIf s.is_alone s.path.now s.text.now e
