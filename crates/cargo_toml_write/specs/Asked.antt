-- What is asked of a manifest, part by part, wherever the part stands.
use Rattle.std.specs.Prelude.{ℕ, List, Option, IfSome, All}
use Rattle.cargo_toml_package.specs.Dependencies.{DependencyMeaning}
use Rattle.cargo_toml_package.specs.Features.{FeaturesMeaning}
use Rattle.cargo_toml_package.specs.Targets.{TargetMeaning}
use Rattle.cargo_toml_manifest.specs.Manifests.{ManifestMeaning}
use Rattle.cargo_toml_package.specs.Packages.{PackageMeaning}
use Rattle.cargo_toml_package.specs.Templates.{TemplateMeaning}
use Rattle.cargo_toml_parts.specs.declared.inheritable.Inheritable.{Inheritable}
use Rattle.cargo_toml_parts.specs.declared.inheritable.Inheritable.TheVariants.{Set, Inherited}
use Rattle.cargo_toml_parts.specs.Lints.{LintMeaning}
use Rattle.cargo_toml_parts.specs.Profiles.{ProfilesMeaning}
use Rattle.cargo_toml_package.specs.Workspaces.{WorkspaceMeaning}

-- P holds of each value of a map
abbrev pub EachValue : {X : Type 0} → (X → Type 0) → List (List ℕ × X) → Type 0
EachValue P es = All (λ e. P e.1) es

-- P holds of what is set
abbrev pub IfSet : {X : Type 0} → (X → Type 0) → Inheritable X → Type 0
IfSet P (Set x) = P x
IfSet P Inherited = Unit {0}

-- what is asked of each part; of features together with what is said of them
pub record Asked (M : Type 0) : Type 1 where
  pub metadata : M → Type 0
  pub «package» : PackageMeaning M → Type 0
  pub template : Option TemplateMeaning → Type 0
  pub dependency : DependencyMeaning → Type 0
  pub lint : LintMeaning → Type 0
  pub profiles : ProfilesMeaning → Type 0
  pub features : FeaturesMeaning → Type 0

-- nothing is asked
abbrev pub nothing_asked : {M : Type 0} → Asked M
nothing_asked = record {
  metadata = λ x. Unit {0};
  «package» = λ p. Unit {0};
  template = λ t. Unit {0};
  dependency = λ d. Unit {0};
  lint = λ l. Unit {0};
  profiles = λ p. Unit {0};
  features = λ fs. Unit {0};
}

-- each dependency of a target is such
pub record TargetMeets (Dependency : DependencyMeaning → Type 0) (t : TargetMeaning) : Type 0 where
  pub dependencies : EachValue Dependency t.dependencies
  pub dev_dependencies : EachValue Dependency t.dev_dependencies
  pub build_dependencies : EachValue Dependency t.build_dependencies

-- each part of a workspace is as asked
pub record WorkspaceMeets {M : Type 0} (asked : Asked M) (w : WorkspaceMeaning M) : Type 0 where
  pub metadata : IfSome w.metadata asked.metadata
  pub template : asked.template w.«package»
  pub dependencies : EachValue asked.dependency w.dependencies
  pub lints : EachValue (EachValue asked.lint) w.lints

-- each part of a manifest is as asked
pub record ManifestMeets {M : Type 0} (asked : Asked M) (m : ManifestMeaning M) : Type 0 where
  pub «package» : IfSome m.«package» asked.«package»
  pub workspace : IfSome m.workspace (WorkspaceMeets asked)
  pub dependencies : EachValue asked.dependency m.dependencies
  pub dev_dependencies : EachValue asked.dependency m.dev_dependencies
  pub build_dependencies : EachValue asked.dependency m.build_dependencies
  pub target : EachValue (TargetMeets asked.dependency) m.target
  pub replace : EachValue asked.dependency m.replace
  pub patch : EachValue (EachValue asked.dependency) m.patch
  pub profile : asked.profiles m.profile
  pub lints : IfSet (EachValue (EachValue asked.lint)) m.lints
  pub features : asked.features (m.features, m.feature_details)
