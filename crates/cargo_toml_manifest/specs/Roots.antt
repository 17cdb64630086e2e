-- What becomes of the bytes that were read for a root.
use Rattle.std.specs.Prelude.{◌≡◌, ◌⊎◌, ◌++◌, ℕ, List, codes, true, false, Some, is_some}
use Rattle.std.specs.Prelude.{Result, Ok, Err, string_bytes, String}
use Rattle.std.specs.declared.alloc.Global.{Global}
use Rattle.toml.specs.View.{view}
use Rattle.toml.specs.declared.value.Value.{Value}
use Rattle.cargo_toml_parts.specs.declared.error.Error.{Error, Memory}
use Rattle.cargo_toml_parts.specs.FaultValues.{fault_of, workspace_integrity}
use Rattle.cargo_toml_parts.specs.Wrapping.{wrap}
use Rattle.cargo_toml_manifest.specs.declared.manifest.Manifest.{Manifest}
use Rattle.cargo_toml_manifest.specs.Manifests.{manifest_meaning, manifest_reads, ManifestRefuses}
use Rattle.cargo_toml_manifest.specs.Texts.{IsFromBytes, any_tree, AnyRefuses}

-- the text of the fault of a root without a workspace table
abbrev pub not_a_workspace : List ℕ
not_a_workspace =
    codes "Not a Workspace.\nUse package.workspace to select a differnt path, or implement "
    ++ codes "cargo_toml::AbstractFilesystem::parse_root_workspace"

-- the answer is what `from_slice` gives for these bytes
abbrev pub IsFromSlice : List ℕ → Result (Manifest Value) Error → Type 0
IsFromSlice bytes result =
    IsFromBytes (manifest_meaning view) (manifest_reads any_tree)
    (ManifestRefuses any_tree AnyRefuses) bytes result

-- the fault of these bytes, which were read at this path: their own, or that they are a manifest
-- without a workspace
abbrev pub IsNoRoot : List ℕ → List ℕ → Error → Type 0
IsNoRoot bytes path fault =
    ((own : Error) × IsFromSlice bytes (Err own)
    × (fault_of fault ≡ wrap (Some path) (fault_of own)))
    ⊎ ((m : Manifest Value)
    × IsFromSlice bytes (Ok m)
    × (is_some m.workspace ≡ false)
    × (fault_of fault ≡ wrap (Some path) (workspace_integrity not_a_workspace)))

-- the root of these bytes, which were read at this path, or why they are none
abbrev pub IsRootAt : List ℕ → List ℕ → Result (Manifest Value × String Global) Error → Type 0
IsRootAt bytes path (Ok root) =
    IsFromSlice bytes (Ok root.0) × (is_some root.0.workspace ≡ true)
    × (string_bytes root.1 ≡ path)
IsRootAt bytes path (Err e) = (e ≡ Memory) ⊎ IsNoRoot bytes path e
