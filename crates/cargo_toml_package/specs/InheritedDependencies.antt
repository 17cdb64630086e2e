-- What dependencies become that are left to the workspace.
use Rattle.std.specs.Prelude.{◌≡◌, ℕ, List, [], ◌∷◌, ◌++◌, length, codes, Bool, true}
use Rattle.std.specs.Prelude.{false, not, ◌&&◌, ◌||◌, ◌==◌, if◌then◌else◌, Option}
use Rattle.std.specs.Prelude.{Some, None, option_map, option_and_then, Result, Ok, Err}
use Rattle.std.specs.List.{list_any}
use Rattle.std.specs.Path.{path_join}
use Rattle.std.specs.Str.{bytes_eq}
use Rattle.semver.specs.Parse.{Held}
use Rattle.cargo_toml_parts.specs.Answers.{◌>>=◌, beside, each}
use Rattle.cargo_toml_parts.specs.FaultValues.{Fault, inherited_unknown_value, workspace_integrity}
use Rattle.cargo_toml_package.specs.Dependencies.{InheritedMeaning, DetailMeaning}
use Rattle.cargo_toml_package.specs.Dependencies.{DependencyMeaning, simple}
use Rattle.cargo_toml_package.specs.Dependencies.{inherited, detailed, no_detail}
use Rattle.cargo_toml_package.specs.Targets.{TargetMeaning}

-- dependencies by key, in the order of the keys
abbrev pub Entries : Type 0
Entries = List (List ℕ × DependencyMeaning)

-- the dependency of a key
abbrev pub entry_at : List ℕ → Entries → Option DependencyMeaning
entry_at key [] = None
entry_at key (e ∷ es) = if bytes_eq key e.0 then Some e.1 else entry_at key es

-- a detail that has only a requirement
abbrev pub detail_of_requirement : List Held → DetailMeaning
detail_of_requirement requirement = record no_detail { version = Some requirement }

-- a detail of the workspace, whose folder is `base`, with what a member's entry adds
abbrev pub with_entry : List ℕ → InheritedMeaning → DetailMeaning → DetailMeaning
with_entry base entry d = record d {
  path = option_map (path_join base) d.path;
  features = d.features ++ entry.features;
  optional = d.optional || entry.optional;
  inherited = true;
}

-- a detail of the workspace that has no keys except a requirement, features and flags
abbrev pub short_detail : Option (List Held) → List (List ℕ) → Bool → Bool → DetailMeaning
short_detail version features optional default_features = record no_detail {
  version = version;
  features = features;
  optional = optional;
  default_features = default_features;
  inherited = true;
}

-- the detail of the workspace has no keys except these, so that what comes of it has no others
-- either
abbrev pub IsShort : DetailMeaning → Type 0
IsShort d =
    (base : List ℕ) (entry : InheritedMeaning) → with_entry base entry d
    ≡ short_detail d.version (d.features ++ entry.features)
    (d.optional || entry.optional) d.default_features

-- the fault of an inherited key that the workspace doesn't have
abbrev pub missing_template : List ℕ → Fault
missing_template key =
    workspace_integrity (codes "workspace dependencies are missing `" ++ key ++ codes "`")

-- the entry has neither a feature nor `optional` of its own
abbrev pub adds_nothing : InheritedMeaning → Bool
adds_nothing entry = length entry.features == 0 && not entry.optional

-- what the entry of a key becomes, by the workspace's dependency of that key
abbrev pub from_template : List ℕ → List ℕ → InheritedMeaning → Option DependencyMeaning
    → Result DependencyMeaning Fault
from_template base key entry None = Err (missing_template key)
from_template base key entry (Some (inherited other)) = Err inherited_unknown_value
from_template base key entry (Some (simple requirement)) =
    if adds_nothing entry then Ok (simple requirement)
    else Ok (detailed (with_entry base entry (detail_of_requirement requirement)))
from_template base key entry (Some (detailed d)) = Ok (detailed (with_entry base entry d))

-- a dependency after inheritance: only what is inherited changes
abbrev pub inherited_entry : Option Entries → List ℕ → List ℕ → DependencyMeaning
    → Result DependencyMeaning Fault
inherited_entry templates base key (inherited entry) =
    from_template base key entry (option_and_then (entry_at key) templates)
inherited_entry templates base key other = Ok other

-- each dependency after inheritance, or the first fault
abbrev pub inherited_entries : Option Entries → List ℕ → Entries → Result Entries Fault
inherited_entries templates base entries =
    each (λ e. beside e.0 (inherited_entry templates base e.0 e.1)) entries

-- the dependencies of a target, in the order in which faults count
abbrev pub inherited_target : Option Entries → List ℕ → TargetMeaning → Result TargetMeaning Fault
inherited_target templates base t = do
  dependencies ← inherited_entries templates base t.dependencies
  build_dependencies ← inherited_entries templates base t.build_dependencies
  dev_dependencies ← inherited_entries templates base t.dev_dependencies
  Ok (record {
    dependencies = dependencies;
    dev_dependencies = dev_dependencies;
    build_dependencies = build_dependencies;
  })

-- what the targets' dependencies become
abbrev pub inherited_targets : Option Entries → List ℕ → List (List ℕ × TargetMeaning)
    → Result (List (List ℕ × TargetMeaning)) Fault
inherited_targets templates base targets =
    each (λ e. beside e.0 (inherited_target templates base e.1)) targets

-- whether a dependency is inherited
abbrev pub is_left : DependencyMeaning → Bool
is_left (inherited entry) = true
is_left other = false

-- some entry is inherited
abbrev pub any_left : Entries → Bool
any_left entries = list_any (λ e. is_left e.1) entries

-- some entry of a target is inherited
abbrev pub target_left : TargetMeaning → Bool
target_left t =
    any_left t.dependencies || any_left t.dev_dependencies || any_left t.build_dependencies

-- some entry of some target is inherited
abbrev pub any_target_left : List (List ℕ × TargetMeaning) → Bool
any_target_left targets = list_any (λ e. target_left e.1) targets
