-- What an implementor of `AbstractFilesystem` states, and what its answers have to be by that.
use Rattle.std.specs.Prelude.{◌≡◌, ℕ, List, Bool, true, false, Some, is_some, Result}
use Rattle.std.specs.Prelude.{string_bytes, String, Vec, IsUtf8, MatchResult, IsErr, IfOk}
use Rattle.std.specs.declared.alloc.Global.{Global}
use Rattle.toml.specs.Data.{Data}
use Rattle.toml.specs.Parse.{parse_document}
use Rattle.toml.specs.View.{view}
use Rattle.toml.specs.declared.value.Value.{Value}
use Rattle.cargo_toml_parts.specs.declared.error.Error.{Error, Memory}
use Rattle.cargo_toml_manifest.specs.declared.manifest.Manifest as code
use Rattle.cargo_toml_manifest.specs.Manifests.{ManifestMeaning, manifest_meaning, manifest_reads}
use Rattle.cargo_toml_manifest.specs.Texts.{any_tree, document_reads}

-- what is stated of the workspace that a hint leads to: its manifest and the path of that, that
-- there is none, or nothing
pub data ToldRoot : Type 0 where
  root : ManifestMeaning Data → List ℕ → ToldRoot
  no_root : ToldRoot
  open_root : ToldRoot

-- the bytes are those of a manifest with a workspace
abbrev pub IsRootIn : List ℕ → ManifestMeaning Data → Type 0
IsRootIn bytes m =
    IsUtf8 bytes
    × (document_reads (manifest_reads any_tree) (parse_document bytes) ≡ Some m)
    × (is_some m.workspace ≡ true)

-- the answer to the question for the bytes of a root
abbrev pub ReadsRoot : ToldRoot → Result (Vec ℕ Global × String Global) Error → Type 0
ReadsRoot (root m path) result =
    MatchResult result (λ r. IsRootIn r.0.items m × (string_bytes r.1 ≡ path)) (λ e. e ≡ Memory)
ReadsRoot no_root result = IfOk result (λ r. (m : ManifestMeaning Data) → ¬ IsRootIn r.0.items m)
ReadsRoot open_root result = Unit {0}

-- the answer to the question for a root
abbrev pub AnswersRoot : ToldRoot → Result (code.Manifest Value × String Global) Error → Type 0
AnswersRoot (root m path) result =
    MatchResult result (λ r. (manifest_meaning view r.0 ≡ m) × (string_bytes r.1 ≡ path))
    (λ e. e ≡ Memory)
AnswersRoot no_root result = IsErr result
AnswersRoot open_root result = Unit {0}

-- what is heard of a root: where no root is ever read, or ever found, none can be stated
abbrev pub heard : Bool → ToldRoot → ToldRoot
heard true told = told
heard false (root m path) = open_root
heard false no_root = no_root
heard false open_root = open_root
