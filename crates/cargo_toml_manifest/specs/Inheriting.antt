-- What a manifest becomes whose parts are left to the workspace.
use Rattle.std.specs.Prelude.{ℕ, List, Bool, false, not, ◌||◌, Option, Some}
use Rattle.std.specs.Prelude.{None, option_map, option_and_then, Result, Ok}
use Rattle.std.specs.Option.{option_map_or}
use Rattle.cargo_toml_parts.specs.Answers.{◌>>=◌}
use Rattle.cargo_toml_parts.specs.FaultValues.{Fault}
use Rattle.cargo_toml_parts.specs.InheritableValues.{is_set}
use Rattle.cargo_toml_package.specs.InheritedDependencies.{Entries, inherited_target}
use Rattle.cargo_toml_package.specs.InheritedDependencies.{inherited_targets}
use Rattle.cargo_toml_package.specs.InheritedDependencies.{any_left, any_target_left}
use Rattle.cargo_toml_package.specs.Targets.{TargetMeaning}
use Rattle.cargo_toml_package.specs.Inheriting.{inherited_package, any_field_left}
use Rattle.cargo_toml_package.specs.Packages.{PackageMeaning}
use Rattle.cargo_toml_package.specs.Templates.{TemplateMeaning}
use Rattle.cargo_toml_package.specs.Sharing.{LintsByTool, Shared, inherited_lints}
use Rattle.cargo_toml_manifest.specs.Manifests.{ManifestMeaning}

-- the package, where there is one
abbrev pub inherited_if_there : {M : Type 0} → Option TemplateMeaning → List ℕ
    → Option (PackageMeaning M) → Result (Option (PackageMeaning M)) Fault
inherited_if_there template base None = Ok None
inherited_if_there template base (Some p) = do
  q ← inherited_package template base p
  Ok (Some q)

-- the tables of dependencies, like those of a target
abbrev pub own_tables : {M : Type 0} → ManifestMeaning M → TargetMeaning
own_tables m = record {
  dependencies = m.dependencies;
  dev_dependencies = m.dev_dependencies;
  build_dependencies = m.build_dependencies;
}

-- a manifest after inheritance of dependencies from these templates, of lints and of package
-- fields, whose paths are joined to `base`: each part is looked up in what was written, and the
-- first fault in this order counts
abbrev pub inherited_from : {M : Type 0} → Option Entries → Option LintsByTool
    → Option TemplateMeaning → List ℕ → ManifestMeaning M → Result (ManifestMeaning M) Fault
inherited_from templates groups template base m = do
  tables ← inherited_target templates base (own_tables m)
  target ← inherited_targets templates base m.target
  lints ← inherited_lints groups m.lints
  «package» ← inherited_if_there template base m.«package»
  Ok (record m {
    «package» = «package»;
    dependencies = tables.dependencies;
    dev_dependencies = tables.dev_dependencies;
    build_dependencies = tables.build_dependencies;
    target = target;
    lints = lints;
  })

-- the same from a workspace, whose folder is `base`
abbrev pub inherited_manifest : {M : Type 0} → Option Shared → List ℕ → ManifestMeaning M
    → Result (ManifestMeaning M) Fault
inherited_manifest workspace base m =
    inherited_from (option_map (λ w. w.dependencies) workspace)
    (option_map (λ w. w.lints) workspace) (option_and_then (λ w. w.template) workspace) base m

-- whether something of the manifest is left to the workspace
abbrev pub needs : {M : Type 0} → ManifestMeaning M → Bool
needs m =
    option_map_or any_field_left m.«package» false
    || not (is_set m.lints)
    || any_left m.dependencies
    || any_left m.dev_dependencies
    || any_left m.build_dependencies
    || any_target_left m.target
