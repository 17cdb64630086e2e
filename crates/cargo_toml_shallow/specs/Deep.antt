-- Texts that nest too deep, and why completion is refused where such a root is.
use Rattle.std.specs.Prelude.{◌≡◌, ◌⊎◌, IsUtf8, List, None, Option, codes, false, true, ℕ}
use Rattle.std.specs.Path.{path_parent}
use Rattle.cargo_toml_depth.specs.Nesting.{is_too_deep}
use Rattle.cargo_toml_manifest.specs.Choosing.{Handed}
use Rattle.cargo_toml_manifest.specs.Manifests.{ManifestMeaning}
use Rattle.cargo_toml_manifest.specs.RealFiles.{IsNoWorkspace, IsRootFault, RealListingRefuses}
use Rattle.cargo_toml_manifest.specs.RealFiles.{any_root, bad_path, real_roots}
use Rattle.cargo_toml_manifest.specs.Refusing.{IsRefusedBy}
use Rattle.cargo_toml_parts.specs.FaultValues.{Fault, fault_of, other}
use Rattle.cargo_toml_parts.specs.declared.error.Error.{Error}

-- the fault of a text that nests too deep
abbrev pub too_deep : Fault
too_deep = other (codes "the text is nested deeper than 128")

-- the text nests too deep, and the fault says so
abbrev pub IsDeepFault : List ℕ → Error → Type 0
IsDeepFault text e = (is_too_deep text ≡ true) × (fault_of e ≡ too_deep)

-- bytes that are a text don't nest too deep
abbrev pub IsShallow : List ℕ → Type 0
IsShallow bytes = IsUtf8 bytes → is_too_deep bytes ≡ false

-- the faults of the bytes of a file that should be a workspace's
abbrev pub IsNoShallowWorkspace : Fault → Type 0
IsNoShallowWorkspace fault = (fault ≡ too_deep) ⊎ IsNoWorkspace fault

-- the faults that stand in place of a root
abbrev pub IsShallowRootFault : Fault → Type 0
IsShallowRootFault fault = (fault ≡ too_deep) ⊎ IsRootFault fault

-- the faults that stand in place of a root that a hint leads to
abbrev pub ShallowRootRefuses : Option (List ℕ) → Fault → Type 0
ShallowRootRefuses hint = IsShallowRootFault

-- why no manifest is completed: its path has no folder above it, and the fault says so, or it is a
-- fault of completion
abbrev pub IsShallowCompletionFault : {M : Type 0} → List ℕ → ManifestMeaning M → Option Handed
    → Error → Type 0
IsShallowCompletionFault path m handed e =
    ((path_parent path ≡ None) × (fault_of e ≡ bad_path))
    ⊎ IsRefusedBy m handed real_roots any_root ShallowRootRefuses RealListingRefuses e
