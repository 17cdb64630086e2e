-- Manifests in real files. Of what stands there nothing is stated: what is completed is so by some
-- answers of files, and refusals are of some kinds.
use Rattle.std.specs.Prelude.{◌≡◌, ◌⊎◌, ℕ, List, ◌++◌, codes, Bool, true, false, Option, Some, None}
use Rattle.std.specs.{Prelude.Err, Prelude.IsUtf8, Path.path_parent}
use Rattle.std.specs.declared.io.ErrorKind.{ErrorKind}
use Rattle.std.specs.declared.io.ErrorKind.TheVariants.{NotFound, NotADirectory, OutOfMemory}
use Rattle.toml.specs.Data.{Data}
use Rattle.toml.specs.Parse.{parse_document}
use Rattle.cargo_toml_parts.specs.declared.error.Error.{Error, Memory}
use Rattle.cargo_toml_parts.specs.FaultValues.{Fault, fault_of, io, other}
use Rattle.cargo_toml_parts.specs.FaultValues.{workspace, workspace_integrity}
use Rattle.cargo_toml_discovery.specs.Disk.{IsInput, IsInputFault, IsListingInput}
use Rattle.cargo_toml_discovery.specs.Told.{Told, open_path}
use Rattle.cargo_toml_manifest.specs.Choosing.{Handed, MayFind, RootsTold}
use Rattle.cargo_toml_manifest.specs.Completing.{GivenBy}
use Rattle.cargo_toml_manifest.specs.Manifests.{ManifestMeaning, held}
use Rattle.cargo_toml_manifest.specs.Refusing.{IsRefusedBy}
use Rattle.cargo_toml_manifest.specs.Roots.{IsFromSlice}
use Rattle.cargo_toml_manifest.specs.Texts.{IsFromText, document_reads}
use Rattle.cargo_toml_manifest.specs.Told.{open_root}
use Rattle.cargo_toml_manifest.specs.declared.files.Filesystem.{Filesystem}
use Rattle.cargo_toml_manifest.specs.declared.manifest.Manifest.{Manifest}

-- the folder that files are read in
abbrev pub folder_of : {R : Type 0} → Filesystem R → List ℕ
folder_of files = files.path.now

-- of real files nothing is stated, neither of a root nor of a folder, and any root may be found
abbrev pub real_roots : RootsTold
real_roots hint = open_root

-- of a folder nothing is stated
abbrev pub real_folders : List ℕ → Told
real_folders path = open_path

-- any root may be found
abbrev pub any_root : MayFind
any_root hint m path = Unit {0}

-- nothing is at the path of a file: its name is missing, or it leads through a file
abbrev pub is_absent : ErrorKind → Bool
is_absent NotFound = true
is_absent NotADirectory = true
is_absent kind = false

-- the text of the fault of a manifest that should be a workspace's
abbrev pub expected_workspace : List ℕ → List ℕ
expected_workspace path = codes "Manifest at " ++ path ++ codes " was expected to be a workspace."

-- the kinds of faults of the bytes of a file: some bytes have it, or it says that the file is no
-- workspace's
abbrev pub IsNoWorkspace : Fault → Type 0
IsNoWorkspace fault =
    ((bytes : List ℕ) × ((e : Error) × (IsFromSlice bytes (Err e) × (fault ≡ fault_of e))))
    ⊎ ((file : List ℕ) × (fault ≡ workspace_integrity (expected_workspace file)))

-- the kinds of faults that stand in place of a root: of reading a file, with its path where a hint
-- leads to it, and of its bytes
abbrev pub IsRootFault : Fault → Type 0
IsRootFault fault =
    IsInputFault fault
    ⊎ (((file : List ℕ)
    × ((kind : ErrorKind)
    × ((¬ (kind ≡ OutOfMemory)) × (fault ≡ workspace (io kind) (Some file)))))
    ⊎ IsNoWorkspace fault)

-- the faults that stand in place of a root that a hint leads to
abbrev pub RealRootRefuses : Option (List ℕ) → Fault → Type 0
RealRootRefuses hint = IsRootFault

-- the kinds of faults that stand in place of names
abbrev pub RealListingRefuses : List ℕ → Fault → Type 0
RealListingRefuses path = IsListingInput

-- the fault of a path without a folder above it
abbrev pub bad_path : Fault
bad_path = other (codes "bad path")

-- why real files complete no manifest: its path has no folder above it, and the fault says so, or
-- it is a fault of completion
abbrev pub IsCompletionFault : {M : Type 0} → List ℕ → ManifestMeaning M → Option Handed
    → Error → Type 0
IsCompletionFault path m handed e =
    ((path_parent path ≡ None) × (fault_of e ≡ bad_path))
    ⊎ IsRefusedBy m handed real_roots any_root RealRootRefuses RealListingRefuses e

-- the text reads as this manifest
abbrev pub ReadsAs : {X M : Type 0} → List ℕ → (Manifest X → ManifestMeaning M)
    → (Data → Option (ManifestMeaning M)) → Manifest X → Type 0
ReadsAs text meaning reads m = document_reads reads (parse_document text) ≡ Some (meaning m)

-- some text reads as this manifest
abbrev pub IsReadFromText : {X M : Type 0} → (Manifest X → ManifestMeaning M)
    → (Data → Option (ManifestMeaning M)) → Manifest X → Type 0
IsReadFromText meaning reads m = (text : List ℕ) × IsUtf8 text × ReadsAs text meaning reads m

-- completion among real files, with no workspace handed in, makes the manifest into this one
abbrev pub IsGivenByFiles : {X : Type 0} → Manifest X → Manifest X → Type 0
IsGivenByFiles read new = GivenBy (held read) None real_roots any_root real_folders (held new)

-- the text reads as a manifest which completion makes into this one
abbrev pub IsCompletedOf : {X M : Type 0} → List ℕ → (Manifest X → ManifestMeaning M)
    → (Data → Option (ManifestMeaning M)) → Manifest X → Type 0
IsCompletedOf text meaning reads new =
    (read : Manifest _) × (ReadsAs text meaning reads read × IsGivenByFiles read new)

-- some text does so
abbrev pub IsReadAndCompleted : {X M : Type 0} → (Manifest X → ManifestMeaning M)
    → (Data → Option (ManifestMeaning M)) → Manifest X → Type 0
IsReadAndCompleted meaning reads new =
    (text : List ℕ) × (IsUtf8 text × IsCompletedOf text meaning reads new)

-- why a text gives no completed manifest: its own fault, or the fault of completing a manifest that
-- it reads as
abbrev pub IsTextFault : {X M : Type 0} → List ℕ → List ℕ → (Manifest X → ManifestMeaning M)
    → (Data → Option (ManifestMeaning M)) → (Data → Error → Type 0) → Error → Type 0
IsTextFault path text meaning reads refuses e =
    IsFromText meaning reads refuses text (Err e)
    ⊎ ((read : Manifest _)
    × (ReadsAs text meaning reads read × IsCompletionFault path (held read) None e))

-- why a file gives no completed manifest: no memory, a fault of reading, or one of some text
abbrev pub IsPathFault : {X M : Type 0} → List ℕ → (Manifest X → ManifestMeaning M)
    → (Data → Option (ManifestMeaning M)) → (Data → Error → Type 0) → Error → Type 0
IsPathFault path meaning reads refuses e =
    (e ≡ Memory)
    ⊎ (IsInput e
    ⊎ ((text : List ℕ) × (IsUtf8 text × IsTextFault path text meaning reads refuses e)))
