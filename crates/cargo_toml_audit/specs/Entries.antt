-- The dependencies of a manifest, one after the other, what it leaves to its workspace, and what it
-- asks for.
use Rattle.std.specs.Prelude.{◌++◌, Bool, List, [], ◌∷◌, codes, if◌then◌else◌, map, string_bytes}
use Rattle.std.specs.{Prelude.unwrap_or, List.flat_map, Option.option_map_or}
use Rattle.cargo_toml.specs.Dependencies.{DependencyMeaning, dependency_meaning, package_of}
use Rattle.cargo_toml.specs.InheritedDependencies.{Entries, is_left}
use Rattle.cargo_toml.specs.InheritedPackages.{field_is_left, leavable_rows}
use Rattle.cargo_toml.specs.{Action.Text, Kind.Kind, Manifests.ManifestMeaning}
use Rattle.cargo_toml.specs.{Requirements.requirement_text, Targets.TargetMeaning}
use Rattle.cargo_toml_tools.specs.Indexed.{all_by_kind, table_name, target_by_kind}
use Rattle.cargo_toml_tools.specs.IndexEntries.{required_version}
use Rattle.cargo_toml_audit.specs.{declared.audit.Use.Use, declared.audit.dependencies.Entry.Entry}

-- which table lists a dependency, and what stands there under its key
abbrev pub Listed : Type 0
Listed = Kind × (Text × DependencyMeaning)

abbrev pub listed_of : Entry → Listed
listed_of e = (e.kind, (e.key.now, dependency_meaning e.dependency.now))

abbrev pub with_kind : Kind × Entries → List Listed
with_kind t = map (λ e. (t.0, e)) t.1

-- those of a target
abbrev pub in_target : Text × TargetMeaning → List Listed
in_target t = flat_map with_kind (target_by_kind t.1)

abbrev pub entries_of : {M : Type 0} → ManifestMeaning M → List Listed
entries_of m = flat_map with_kind (all_by_kind m)

-- ---- what is left to the workspace

abbrev pub named_if : Text × Bool → List Text
named_if row = if row.1 then row.0 ∷ [] else []

-- the keys of the package, and then `lints`
abbrev pub left_fields : {M : Type 0} → ManifestMeaning M → List Text
left_fields m =
    flat_map named_if (option_map_or leavable_rows m.«package» [])
    ++ named_if (codes "lints", field_is_left m.lints)

-- a dependency, as `TABLE.KEY`
abbrev pub left_dependency : Listed → List Text
left_dependency e = named_if (table_name e.0 ++ codes "." ++ e.1.0, is_left e.1.1)

abbrev pub left_keys : {M : Type 0} → ManifestMeaning M → List Text
left_keys m = left_fields m ++ flat_map left_dependency (entries_of m)

-- the keys of the workspace's dependencies that are inherited
abbrev pub inherited_in : List Listed → List Text
inherited_in es = flat_map (λ e. named_if (e.1.0, is_left e.1.1)) es

-- ---- what is asked for: a crate, by a requirement. Without a requirement nothing is
pub record Asking : Type 0 where
  pub name : Text
  pub requirement : Text

abbrev pub asking_of : Use → Asking
asking_of u = record { name = string_bytes u.name; requirement = string_bytes u.requirement }

abbrev pub asked_by : Listed → List Asking
asked_by e =
    option_map_or
    (λ r. record {
      name = unwrap_or (package_of e.1.1) e.1.0;
      requirement = requirement_text r;
    } ∷ [])
    (required_version e.1.1) []

abbrev pub asked_in : List Listed → List Asking
asked_in es = flat_map asked_by es
