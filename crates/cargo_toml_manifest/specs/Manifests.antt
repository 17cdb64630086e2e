-- What a manifest holds, and which trees are manifests.
use Rattle.std.specs.Prelude.{◌⊎◌, ℕ, List, [], map, Bool, false, ◌&&◌, ◌==◌, if◌then◌else◌, length}
use Rattle.std.specs.Prelude.{Option, Some, None, option_map, option_and_then, string_bytes}
use Rattle.toml.specs.Data.{Data, Members, no_members, as_table}
use Rattle.cargo_toml_parts.specs.declared.error.Error.{Error}
use Rattle.cargo_toml_parts.specs.declared.inheritable.Inheritable.{Inheritable}
use Rattle.cargo_toml_parts.specs.declared.inheritable.Inheritable.TheVariants.{Set, Inherited}
use Rattle.cargo_toml_parts.specs.Badges.{BadgesMeaning, badges_meaning, badges_of}
use Rattle.cargo_toml_package.specs.Dependencies.{DependencyMeaning}
use Rattle.cargo_toml_package.specs.Dependencies.{dependency_meaning, dependency_of}
use Rattle.cargo_toml_package.specs.Details.{Detail, detail_of}
use Rattle.cargo_toml_package.specs.Features.{features_of, no_features}
use Rattle.cargo_toml_parts.specs.Inherits.{inheritable_map, inheritable_of, InheritableRefuses}
use Rattle.cargo_toml_parts.specs.Lints.{LintMeaning, lint_meaning, lint_of}
use Rattle.cargo_toml_parts.specs.Products.{ProductMeaning, product_meaning, product_of}
use Rattle.cargo_toml_parts.specs.Profiles.{ProfilesMeaning, profiles_meaning}
use Rattle.cargo_toml_parts.specs.Profiles.{profiles_of, ProfilesFaults}
use Rattle.cargo_toml_parts.specs.Reads.{◌>>=◌, array_of, map_of, map_meaning, optional_at}
use Rattle.cargo_toml_parts.specs.Reads.{given_at, map_at, FaultAt, TableRefuses, WrongShape}
use Rattle.cargo_toml_parts.specs.Settings.{Registries, everywhere, among}
use Rattle.cargo_toml_package.specs.Targets.{TargetMeaning, target_meaning, target_of}
use Rattle.cargo_toml_parts.specs.Versions.{Parts}
use Rattle.cargo_toml_manifest.specs.declared.manifest.Manifest.{Manifest}
use Rattle.cargo_toml_parts.specs.Keys.{inherited_at}
use Rattle.cargo_toml_package.specs.Packages.{PackageMeaning, package_meaning}
use Rattle.cargo_toml_package.specs.Packages.{package_reads, PackageRefuses}
use Rattle.cargo_toml_package.specs.Workspaces.{Refusal, WorkspaceMeaning, workspace_meaning}
use Rattle.cargo_toml_package.specs.Workspaces.{workspace_reads, WorkspaceRefuses}

-- what a manifest holds, whose metadata are M
pub record ManifestMeaning (M : Type 0) : Type 0 where
  pub «package» : Option (PackageMeaning M)
  pub workspace : Option (WorkspaceMeaning M)
  pub dependencies : List (List ℕ × DependencyMeaning)
  pub dev_dependencies : List (List ℕ × DependencyMeaning)
  pub build_dependencies : List (List ℕ × DependencyMeaning)
  pub target : List (List ℕ × TargetMeaning)
  pub features : List (List ℕ × List (List ℕ))
  pub replace : List (List ℕ × DependencyMeaning)
  pub patch : List (List ℕ × List (List ℕ × DependencyMeaning))
  pub lib : Option ProductMeaning
  pub profile : ProfilesMeaning
  pub badges : BadgesMeaning
  pub bin : List ProductMeaning
  pub bench : List ProductMeaning
  pub test : List ProductMeaning
  pub example : List ProductMeaning
  pub lints : Inheritable (List (List ℕ × List (List ℕ × LintMeaning)))
  pub feature_details : List (List ℕ × Detail)

-- what a manifest holds, with its metadata as f reads them
abbrev pub manifest_meaning : {X M : Type 0} → (X → M) → Manifest X → ManifestMeaning M
manifest_meaning f m = record {
  «package» = option_map (package_meaning f) m.«package»;
  workspace = option_map (workspace_meaning f) m.workspace;
  dependencies = map_meaning dependency_meaning m.dependencies;
  dev_dependencies = map_meaning dependency_meaning m.dev_dependencies;
  build_dependencies = map_meaning dependency_meaning m.build_dependencies;
  target = map_meaning target_meaning m.target;
  features = map_meaning (λ v. map string_bytes v.items) m.features;
  replace = map_meaning dependency_meaning m.replace;
  patch = map_meaning (map_meaning dependency_meaning) m.patch;
  lib = option_map product_meaning m.lib;
  profile = profiles_meaning m.profile;
  badges = badges_meaning m.badges;
  bin = map product_meaning m.bin.items;
  bench = map product_meaning m.bench.items;
  test = map product_meaning m.test.items;
  example = map product_meaning m.example.items;
  lints = inheritable_map (map_meaning (map_meaning lint_meaning)) m.lints;
  feature_details = map_meaning detail_of m.feature_details;
}

-- what a manifest holds, with its metadata as they are
abbrev pub held : {M : Type 0} → Manifest M → ManifestMeaning M
held = manifest_meaning (λ x. x)

-- the version is 0.0.0, without pre-release and build metadata
abbrev pub is_zero : Inheritable Parts → Bool
is_zero (Set p) =
    (p.0 == 0) && ((p.1 == 0) && ((p.2 == 0) && ((length p.3 == 0) && (length p.4 == 0))))
is_zero Inherited = false

-- the package may be published everywhere
abbrev pub is_everywhere : Inheritable Registries → Bool
is_everywhere (Set (everywhere b)) = b
is_everywhere (Set (among names)) = false
is_everywhere Inherited = false

-- the rule of version 0.0.0: such a package that could be published everywhere is published nowhere
abbrev pub zero_rule_applies : {M : Type 0} → PackageMeaning M → Bool
zero_rule_applies p = is_zero p.version && is_everywhere p.publish

-- the package by the rule of version 0.0.0
abbrev pub by_zero_rule : {M : Type 0} → PackageMeaning M → PackageMeaning M
by_zero_rule p = if zero_rule_applies p then record p { publish = Set (everywhere false) } else p

-- the target of a tree
abbrev pub target_reads : Data → Option TargetMeaning
target_reads d = option_and_then target_of (as_table d)

-- the product of a tree
abbrev pub product_reads : Data → Option ProductMeaning
product_reads d = option_and_then product_of (as_table d)

-- the profiles of a tree
abbrev pub profiles_reads : Data → Option ProfilesMeaning
profiles_reads d = option_and_then profiles_of (as_table d)

-- what may be wrong with a tree that is to be profiles
abbrev pub ProfilesRefuse : Refusal
ProfilesRefuse d e = TableRefuses ProfilesFaults (as_table d) e

-- the badges of a tree
abbrev pub badges_reads : Data → Option BadgesMeaning
badges_reads d = option_map badges_of (as_table d)

-- no profile
abbrev pub no_profiles : ProfilesMeaning
no_profiles =
    record { release = None; dev = None; test = None; bench = None; doc = None; custom = [] }

-- no badge
abbrev pub no_badges : BadgesMeaning
no_badges = badges_of no_members

-- the manifest of a table, whose metadata is read as `metadata_of` says
abbrev pub manifest_of : {M : Type 0} → (Data → Option M) → Members → Option (ManifestMeaning M)
manifest_of metadata_of ms = do
  found ← optional_at "package" (package_reads metadata_of) ms
  workspace ← optional_at "workspace" (workspace_reads metadata_of) ms
  dependencies ← map_at "dependencies" dependency_of ms
  dev_dependencies ← map_at "dev-dependencies" dependency_of ms
  build_dependencies ← map_at "build-dependencies" dependency_of ms
  target ← map_at "target" target_reads ms
  features ← given_at "features" no_features features_of ms
  replace ← map_at "replace" dependency_of ms
  patch ← map_at "patch" (map_of dependency_of) ms
  lib ← optional_at "lib" product_reads ms
  profile ← given_at "profile" no_profiles profiles_reads ms
  badges ← given_at "badges" no_badges badges_reads ms
  bin ← given_at "bin" [] (array_of product_reads) ms
  bench ← given_at "bench" [] (array_of product_reads) ms
  test ← given_at "test" [] (array_of product_reads) ms
  example ← given_at "example" [] (array_of product_reads) ms
  lints ← inherited_at "lints" [] (map_of (map_of lint_of)) ms
  Some (record {
    «package» = option_map by_zero_rule found;
    workspace = workspace;
    dependencies = dependencies;
    dev_dependencies = dev_dependencies;
    build_dependencies = build_dependencies;
    target = target;
    features = features.0;
    replace = replace;
    patch = patch;
    lib = lib;
    profile = profile;
    badges = badges;
    bin = bin;
    bench = bench;
    test = test;
    example = example;
    lints = lints;
    feature_details = features.1;
  })

-- what may be wrong with a manifest
abbrev pub ManifestFaults : {M : Type 0} → (Data → Option M) → Refusal → Members → Error → Type 0
ManifestFaults metadata_of metadata_refuses ms e =
    FaultAt "package" (package_reads metadata_of) (PackageRefuses metadata_of metadata_refuses) ms e
    ⊎ FaultAt "workspace" (workspace_reads metadata_of)
    (WorkspaceRefuses metadata_of metadata_refuses) ms e
    ⊎ FaultAt "dependencies" (map_of dependency_of) WrongShape ms e
    ⊎ FaultAt "dev-dependencies" (map_of dependency_of) WrongShape ms e
    ⊎ FaultAt "build-dependencies" (map_of dependency_of) WrongShape ms e
    ⊎ FaultAt "target" (map_of target_reads) WrongShape ms e
    ⊎ FaultAt "features" features_of WrongShape ms e
    ⊎ FaultAt "replace" (map_of dependency_of) WrongShape ms e
    ⊎ FaultAt "patch" (map_of (map_of dependency_of)) WrongShape ms e
    ⊎ FaultAt "lib" product_reads WrongShape ms e
    ⊎ FaultAt "profile" profiles_reads ProfilesRefuse ms e
    ⊎ FaultAt "badges" badges_reads WrongShape ms e
    ⊎ FaultAt "bin" (array_of product_reads) WrongShape ms e
    ⊎ FaultAt "bench" (array_of product_reads) WrongShape ms e
    ⊎ FaultAt "test" (array_of product_reads) WrongShape ms e
    ⊎ FaultAt "example" (array_of product_reads) WrongShape ms e
    ⊎ FaultAt "lints" (inheritable_of (map_of (map_of lint_of))) InheritableRefuses ms e

-- the manifest of a tree
abbrev pub manifest_reads : {M : Type 0} → (Data → Option M) → Data → Option (ManifestMeaning M)
manifest_reads metadata_of d = option_and_then (manifest_of metadata_of) (as_table d)

-- what may be wrong with a tree that is to be a manifest
abbrev pub ManifestRefuses : {M : Type 0} → (Data → Option M) → Refusal → Refusal
ManifestRefuses metadata_of metadata_refuses d e =
    TableRefuses (ManifestFaults metadata_of metadata_refuses) (as_table d) e
