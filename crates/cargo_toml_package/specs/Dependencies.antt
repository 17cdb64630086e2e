-- What a dependency holds, and which trees are dependencies.
use Rattle.std.specs.Prelude.{ℕ, List, [], ◌∷◌, codes, map, Bool, true, false}
use Rattle.std.specs.Prelude.{Option, Some, None, is_some, option_map, string_bytes}
use Rattle.std.specs.Result.{result_ok}
use Rattle.semver.specs.Parse.{req_of, Held}
use Rattle.toml.specs.Data.{Data, string, table, Members, as_bool}
use Rattle.toml.specs.View.{view}
use Rattle.cargo_toml_parts.specs.declared.error.Error.{Error}
use Rattle.cargo_toml_package.specs.declared.dependency.Dependency.{Dependency}
use Rattle.cargo_toml_package.specs.declared.dependency.Dependency.TheVariants as kind
use Rattle.cargo_toml_package.specs.declared.dependency.DependencyDetail.{DependencyDetail}
use Rattle.cargo_toml_package.specs.declared.dependency.InheritedDependencyDetail.{
  InheritedDependencyDetail,
}
use Rattle.cargo_toml_parts.specs.Reads.{◌>>=◌, required_at, optional_at, text_at, flag_at}
use Rattle.cargo_toml_parts.specs.Reads.{list_at, others_read, map_meaning, WrongShape}
use Rattle.cargo_toml_parts.specs.Versions.{requirement_of, requirement_meaning}

-- what an inherited dependency holds
pub record InheritedMeaning : Type 0 where
  pub features : List (List ℕ)
  pub optional : Bool
  pub workspace : Bool

-- what an inherited dependency holds
abbrev pub inherited_meaning : InheritedDependencyDetail → InheritedMeaning
inherited_meaning i = record {
  features = map string_bytes i.features.items;
  optional = i.optional;
  workspace = i.workspace;
}

-- the inherited dependency of a table, each of whose keys may be missing
abbrev pub inherited_of : Members → Option InheritedMeaning
inherited_of ms = do
  features ← list_at "features" ms
  optional ← flag_at "optional" false ms
  workspace ← flag_at "workspace" false ms
  Some (record { features = features; optional = optional; workspace = workspace })

-- whether the table has a truth value at its key `workspace`
abbrev pub says_workspace : Members → Bool
says_workspace ms = is_some (required_at "workspace" as_bool ms)

-- the inherited dependency of a table, whose key `workspace` must be there
abbrev pub strict_of : Members → Option InheritedMeaning
strict_of ms = do
  workspace ← required_at "workspace" as_bool ms
  features ← list_at "features" ms
  optional ← flag_at "optional" false ms
  Some (record { features = features; optional = optional; workspace = workspace })

-- what the detail of a dependency holds
pub record DetailMeaning : Type 0 where
  pub version : Option (List Held)
  pub «package» : Option (List ℕ)
  pub registry : Option (List ℕ)
  pub registry_index : Option (List ℕ)
  pub path : Option (List ℕ)
  pub git : Option (List ℕ)
  pub branch : Option (List ℕ)
  pub tag : Option (List ℕ)
  pub rev : Option (List ℕ)
  pub features : List (List ℕ)
  pub optional : Bool
  pub default_features : Bool
  pub unstable : List (List ℕ × Data)
  pub inherited : Bool

-- a detail of which nothing is told: any version, with its default features
abbrev pub no_detail : DetailMeaning
no_detail = record {
  version = None;
  «package» = None;
  registry = None;
  registry_index = None;
  path = None;
  git = None;
  branch = None;
  tag = None;
  rev = None;
  features = [];
  optional = false;
  default_features = true;
  unstable = [];
  inherited = false;
}

-- what the detail holds
abbrev pub detail_meaning : DependencyDetail → DetailMeaning
detail_meaning d = record {
  version = option_map requirement_meaning d.version;
  «package» = option_map string_bytes d.package;
  registry = option_map string_bytes d.registry;
  registry_index = option_map string_bytes d.registry_index;
  path = option_map string_bytes d.path;
  git = option_map string_bytes d.git;
  branch = option_map string_bytes d.branch;
  tag = option_map string_bytes d.tag;
  rev = option_map string_bytes d.rev;
  features = map string_bytes d.features.items;
  optional = d.optional;
  default_features = d.default_features;
  unstable = map_meaning view d.unstable;
  inherited = d.inherited;
}

-- the keys of a detail
abbrev pub detail_keys : List (List ℕ)
detail_keys =
    codes "version" ∷ codes "features" ∷ codes "optional" ∷ codes "default-features"
    ∷ codes "package" ∷ codes "registry" ∷ codes "registry-index" ∷ codes "path" ∷ codes "git"
    ∷ codes "branch" ∷ codes "tag" ∷ codes "rev" ∷ []

-- the detail of a table
abbrev pub detail_of_table : Members → Option DetailMeaning
detail_of_table ms = do
  version ← optional_at "version" requirement_of ms
  features ← list_at "features" ms
  optional ← flag_at "optional" false ms
  default_features ← flag_at "default-features" true ms
  «package» ← text_at "package" ms
  registry ← text_at "registry" ms
  registry_index ← text_at "registry-index" ms
  path ← text_at "path" ms
  git ← text_at "git" ms
  branch ← text_at "branch" ms
  tag ← text_at "tag" ms
  rev ← text_at "rev" ms
  unstable ← others_read detail_keys (λ d. Some d) ms
  Some (record {
    version = version;
    «package» = «package»;
    registry = registry;
    registry_index = registry_index;
    path = path;
    git = git;
    branch = branch;
    tag = tag;
    rev = rev;
    features = features;
    optional = optional;
    default_features = default_features;
    unstable = unstable;
    inherited = false;
  })

-- what a dependency holds
pub data DependencyMeaning : Type 0 where
  simple : List Held → DependencyMeaning
  inherited : InheritedMeaning → DependencyMeaning
  detailed : DetailMeaning → DependencyMeaning

-- what a dependency holds
abbrev pub dependency_meaning : Dependency → DependencyMeaning
dependency_meaning (kind.Simple r) = simple (requirement_meaning r)
dependency_meaning (kind.Inherited i) = inherited (inherited_meaning i)
dependency_meaning (kind.Detailed b) = detailed (detail_meaning b.value)

-- inherited where that reads, and else the detail
abbrev pub inherited_or : Option InheritedMeaning → Option DetailMeaning → Option DependencyMeaning
inherited_or (Some i) d = Some (inherited i)
inherited_or None d = option_map detailed d

-- a text is a requirement, and a table is inherited or a detail
unfoldable pub dependency_of : Data → Option DependencyMeaning
dependency_of (string s) = option_map simple (result_ok (req_of s))
dependency_of (table ms) = inherited_or (strict_of ms) (detail_of_table ms)
dependency_of _ = None

-- what is wrong is a shape
abbrev pub DependencyRefuses : Data → Error → Type 0
DependencyRefuses d e = WrongShape d e

-- whether a dependency is optional; an inherited one by its own entry alone
abbrev pub is_optional : DependencyMeaning → Bool
is_optional (simple r) = false
is_optional (inherited i) = i.optional
is_optional (detailed d) = d.optional

-- the name of the package, where a detail names it
abbrev pub package_of : DependencyMeaning → Option (List ℕ)
package_of (simple r) = None
package_of (inherited i) = None
package_of (detailed d) = d.«package»
