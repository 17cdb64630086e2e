-- What completion gives: the manifest with what it inherits, and with what is found in its folders.
use Rattle.std.specs.Prelude.{◌≡◌, ◌⊎◌, ℕ, List, [], ◌∷◌, map, Option, Some, None, Result, Ok, Err}
use Rattle.std.specs.Prelude.{option_map}
use Rattle.cargo_toml_parts.specs.Paths.{workspace_folder}
use Rattle.cargo_toml_parts.specs.declared.error.Error.{Error, Memory}
use Rattle.cargo_toml_parts.specs.FaultValues.{Fault, fault_of}
use Rattle.cargo_toml_parts.specs.Wrapping.{wrap}
use Rattle.cargo_toml_discovery.specs.Answers.{Answers, filled}
use Rattle.cargo_toml_discovery.specs.Names.{Name}
use Rattle.cargo_toml_discovery.specs.Seen.{IsOneOf, Seen, seen, faulty, unclear}
use Rattle.cargo_toml_discovery.specs.Told.{Told}
use Rattle.cargo_toml_manifest.specs.Choosing.{AnswersHint, Choice, Handed, MayFind, RootsTold}
use Rattle.cargo_toml_manifest.specs.Choosing.{choice, from, hint_of, lost, unclear_root}
use Rattle.cargo_toml_manifest.specs.Finding.{found_around}
use Rattle.cargo_toml_manifest.specs.Inheriting.{inherited_manifest}
use Rattle.cargo_toml_manifest.specs.Manifests.{ManifestMeaning}
use Rattle.cargo_toml_manifest.specs.Told.{ToldRoot}

-- what completion gives: a value, one of these faults, any fault of the search for a root with this
-- path, or what isn't stated
pub data Outcome (A : Type 0) : Type 0 where
  gives : A → Outcome A
  refuses : List Fault → Outcome A
  no_workspace : Option (List ℕ) → Outcome A
  untold : Outcome A

-- what is seen, where a fault is reported with this path
abbrev pub seen_at : {A : Type 0} → Option (List ℕ) → Seen A → Outcome A
seen_at path (seen x) = gives x
seen_at path (faulty faults) = refuses (map (wrap path) faults)
seen_at path unclear = untold

-- what is found comes after what is inherited, whose fault is reported with the same path
abbrev pub then_found : {M : Type 0} → Option (List ℕ) → (Name → Told)
    → Result (ManifestMeaning M) Fault → Outcome (ManifestMeaning M)
then_found path told (Ok m) = seen_at path (found_around m told)
then_found path told (Err fault) = refuses (wrap path fault ∷ [])

-- what a manifest becomes that inherits from this workspace, if from one
abbrev pub inherited_by : {M : Type 0} → Option Handed → ManifestMeaning M
    → Result (ManifestMeaning M) Fault
inherited_by None m = Ok m
inherited_by (Some w) m = inherited_manifest w.0 (workspace_folder w.1) m

-- the path that is reported with a fault then
abbrev pub path_of : Option Handed → Option (List ℕ)
path_of w = option_map (λ h. h.1) w

-- the outcome of completion, once it is chosen where to inherit from
abbrev pub complete_by : {M : Type 0} → ManifestMeaning M → Choice → (Name → Told)
    → Outcome (ManifestMeaning M)
complete_by m (from w) told = then_found (path_of w) told (inherited_by w m)
complete_by m lost told = no_workspace (hint_of m)
complete_by m unclear_root told = untold

-- a manifest after completion, by the workspace that is handed in, if any, and by what is stated of
-- roots and of folders
abbrev pub complete : {M : Type 0} → ManifestMeaning M → Option Handed → RootsTold → (Name → Told)
    → Outcome (ManifestMeaning M)
complete m handed roots told = complete_by m (choice m handed roots) told

-- an answer is the outcome, or there was no memory; where the outcome isn't stated, nothing is said
-- of the answer here
abbrev pub Meets : {T A : Type 0} → (T → A) → Outcome A → Result T Error → Type 0
Meets f untold result = Unit {0}
Meets f (gives x) (Ok t) = f t ≡ x
Meets f (gives x) (Err e) = e ≡ Memory
Meets f (refuses faults) (Ok t) = ⊥
Meets f (refuses faults) (Err e) = (e ≡ Memory) ⊎ IsOneOf (fault_of e) faults
Meets f (no_workspace path) (Ok t) = ⊥
Meets f (no_workspace path) (Err e) =
    (e ≡ Memory) ⊎ ((fault : Fault) × (fault_of e ≡ wrap path fault))

-- the value is what completion gives by some answer for the root, and some for folders, finitely
-- many
abbrev pub GivenBy : {M : Type 0} → ManifestMeaning M → Option Handed → RootsTold → MayFind
    → (Name → Told) → ManifestMeaning M → Type 0
GivenBy m handed roots found told n =
    (answer : ToldRoot) × AnswersHint (roots (hint_of m)) (found (hint_of m)) answer
    × ((answers : Answers) × (complete m handed (λ _. answer) (filled told answers) ≡ gives n))

-- completing the result again, with the same workspace and by the same stated answers, gives it
-- again
abbrev pub IsLasting : {M : Type 0} → ManifestMeaning M → Option Handed → ManifestMeaning M → Type 0
IsLasting m handed n =
    (roots : RootsTold) (told : Name → Told) → complete m handed roots told ≡ gives n
    → complete n handed roots told ≡ gives n
