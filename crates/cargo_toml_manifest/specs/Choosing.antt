-- From which workspace a manifest inherits.
use Rattle.std.specs.Prelude.{◌≡◌, ◌⊎◌, List, ℕ, [], Bool, true, false}
use Rattle.std.specs.Prelude.{Option, Some, None, option_map, option_and_then}
use Rattle.toml.specs.Data.{Data}
use Rattle.cargo_toml_package.specs.Sharing.{Shared, shared, shared_of}
use Rattle.cargo_toml_manifest.specs.Inheriting.{needs}
use Rattle.cargo_toml_manifest.specs.Manifests.{ManifestMeaning}
use Rattle.cargo_toml_manifest.specs.Told.{ToldRoot, root, no_root, open_root, heard}
use Rattle.cargo_toml_manifest.specs.declared.manifest.Manifest.{Manifest}
use denote.Ref.{Bor}

-- a workspace with its path, as it is handed in: what its manifest shares, where it has a table
abbrev pub Handed : Type 0
Handed = Option Shared × List ℕ

-- the workspace that is handed in, and its path
abbrev pub handed_of : {N : Type 0} → Bor (Manifest N) × Bor (List ℕ) → Handed
handed_of handed = (shared_of handed.0.now.workspace, handed.1.now)

-- what is stated of the root that a hint leads to
abbrev pub RootsTold : Type 0
RootsTold = Option (List ℕ) → ToldRoot

-- what is heard of the roots that an implementor tells
abbrev pub roots_of : Bool → RootsTold → RootsTold
roots_of finds told hint = heard finds (told hint)

-- which roots may be found for a hint: a manifest with its path
abbrev pub MayFind : Type 1
MayFind = Option (List ℕ) → ManifestMeaning Data → List ℕ → Type 0

-- where a manifest inherits from: this workspace, or none where nothing is inherited (`from`); a
-- root that isn't found (`lost`); or a root of which nothing is stated (`unclear_root`)
pub data Choice : Type 0 where
  from : Option Handed → Choice
  lost : Choice
  unclear_root : Choice

-- the choice by what is told of a root
abbrev pub told_choice : ToldRoot → Choice
told_choice (root m path) = from (Some (option_map shared m.workspace, path))
told_choice no_root = lost
told_choice open_root = unclear_root

-- the hint of the package
abbrev pub hint_of : {M : Type 0} → ManifestMeaning M → Option (List ℕ)
hint_of m = option_and_then (λ p. p.workspace) m.«package»

-- the own workspace table, or else, where something is inherited, the root that the hint leads to
abbrev pub own_choice : Option Shared → Bool → ToldRoot → Choice
own_choice (Some w) needed told = from (Some (Some w, []))
own_choice None true told = told_choice told
own_choice None false told = from None

-- what was handed in goes first
abbrev pub choice : {M : Type 0} → ManifestMeaning M → Option Handed → RootsTold → Choice
choice m (Some handed) told = from (Some handed)
choice m None told = own_choice (option_map shared m.workspace) (needs m) (told (hint_of m))

-- an answer that names a root has one that may be found
abbrev pub MayBe : (ManifestMeaning Data → List ℕ → Type 0) → ToldRoot → Type 0
MayBe found (root m path) = found m path
MayBe found no_root = Unit {0}
MayBe found open_root = Unit {0}

-- the answer for a hint: what is stated of its root, or where nothing is, one that may be found
abbrev pub AnswersHint : ToldRoot → (ManifestMeaning Data → List ℕ → Type 0) → ToldRoot → Type 0
AnswersHint told found answer = (told ≡ answer) ⊎ ((told ≡ open_root) × MayBe found answer)
