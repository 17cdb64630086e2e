-- What is read of what was written of a manifest, and of which manifests that is said.
use Rattle.std.specs.Prelude.{◌≡◌, ℕ, List, map, true, false, if◌then◌else◌, IfSome, option_map}
use Rattle.cargo_toml_package.specs.Dependencies.{DependencyMeaning, no_detail}
use Rattle.cargo_toml_package.specs.Dependencies as kind
use Rattle.cargo_toml_package.specs.Targets.{TargetMeaning}
use Rattle.cargo_toml_manifest.specs.Choosing.{Choice}
use Rattle.cargo_toml_manifest.specs.Choosing as choice
use Rattle.cargo_toml_manifest.specs.Manifests.{ManifestMeaning, by_zero_rule}
use Rattle.cargo_toml_package.specs.Sharing.{Shared}
use Rattle.cargo_toml_package.specs.Workspaces.{WorkspaceMeaning}
use Rattle.cargo_toml_write.specs.Asked.{Asked, EachValue, ManifestMeets, nothing_asked}
use Rattle.cargo_toml_write.specs.WrittenDependencies.{DependencyAgain, AreTold}
use Rattle.cargo_toml_write.specs.WrittenPackages.{TemplateAgain, VersionAgain}
use Rattle.cargo_toml_write.specs.WrittenTables.{AreApart, IsApart}

-- a dependency as it is read again: nothing says that it was inherited once, and one that says that
-- it isn't is a detail
abbrev pub reread_dependency : DependencyMeaning → DependencyMeaning
reread_dependency (kind.simple r) = kind.simple r
reread_dependency (kind.inherited i) =
    if i.workspace then kind.inherited i
    else kind.detailed (record no_detail { features = i.features; optional = i.optional })
reread_dependency (kind.detailed d) = kind.detailed (record d { inherited = false })

-- each value of a map
abbrev pub each_value : {X M : Type 0} → (X → M) → List (List ℕ × X) → List (List ℕ × M)
each_value f es = map (λ e. (e.0, f e.1)) es

-- a target as it is read again
abbrev pub reread_target : TargetMeaning → TargetMeaning
reread_target t = record {
  dependencies = each_value reread_dependency t.dependencies;
  dev_dependencies = each_value reread_dependency t.dev_dependencies;
  build_dependencies = each_value reread_dependency t.build_dependencies;
}

-- a workspace as it is read again
abbrev pub reread_workspace : {M : Type 0} → WorkspaceMeaning M → WorkspaceMeaning M
reread_workspace w = record w { dependencies = each_value reread_dependency w.dependencies }

-- a manifest as it is read again: as it was, but for such dependencies and the rule of
-- version 0.0.0
abbrev pub reread : {M : Type 0} → ManifestMeaning M → ManifestMeaning M
reread m = record m {
  «package» = option_map by_zero_rule m.«package»;
  workspace = option_map reread_workspace m.workspace;
  dependencies = each_value reread_dependency m.dependencies;
  dev_dependencies = each_value reread_dependency m.dev_dependencies;
  build_dependencies = each_value reread_dependency m.build_dependencies;
  target = each_value reread_target m.target;
  replace = each_value reread_dependency m.replace;
  patch = each_value (each_value reread_dependency) m.patch;
}

-- what is asked of a manifest so that it is read again: some text says each version and is read as
-- each requirement; no key was collected that is known; and each detail of a feature is of a listed
-- one and says something
abbrev pub told : {M : Type 0} → Asked M
told = record nothing_asked {
  «package» = λ p. VersionAgain p.version;
  template = λ t. IfSome t TemplateAgain;
  dependency = λ d. DependencyAgain (reread_dependency d);
  lint = IsApart;
  profiles = AreApart;
  features = AreTold;
}

-- each part of the manifest is such, so that it is read again
abbrev pub IsTold : {M : Type 0} → ManifestMeaning M → Type 0
IsTold m = ManifestMeets told m

-- a dependency that says whether the workspace gives it says that it does
abbrev pub SaysTrue : DependencyMeaning → Type 0
SaysTrue (kind.inherited i) = i.workspace ≡ true
SaysTrue other = Unit {0}

-- what is asked of a manifest: that each of its dependencies does so
abbrev pub says_true : {M : Type 0} → Asked M
says_true = record nothing_asked { dependency = SaysTrue }

-- what a workspace gives to its members is told
pub record SharedIsTold (w : Shared) : Type 0 where
  pub template : IfSome w.template TemplateAgain
  pub dependencies : EachValue (λ d. DependencyAgain (reread_dependency d)) w.dependencies
  pub lints : EachValue (EachValue IsApart) w.lints

-- so is the workspace that a manifest inherits from
abbrev pub ChoiceIsTold : Choice → Type 0
ChoiceIsTold (choice.from handed) = IfSome handed (λ h. IfSome h.0 SharedIsTold)
ChoiceIsTold other = Unit {0}
