-- What is told of a member.
use Rattle.std.specs.Prelude.{◌≡◌, ◌||◌, ◌==◌, Bool, false, true, List, Option, Some, String}
use Rattle.std.specs.Prelude.{codes, if◌then◌else◌, length, map, option_map, string_bytes}
use Rattle.std.specs.{List.join_by, Option.option_map_or, declared.alloc.Global.Global}
use Rattle.semver.specs.Identifiers.{parts_text}
use Rattle.cargo_toml.specs.InheritedPackages.{field_is_left, is_left_there}
use Rattle.cargo_toml.specs.Settings.{Registries, among, edition_text, everywhere}
use Rattle.cargo_toml.specs.{Action.Text, Inheritable.Inheritable, Inheritable.TheVariants.Set}
use Rattle.cargo_toml.specs.{InheritableValues.value_of, Manifests.ManifestMeaning}
use Rattle.cargo_toml.specs.{Packages.PackageMeaning}
use Rattle.cargo_toml_audit.specs.declared.audit.Member.{Member}

-- where a package may be published: the names of registries with commas between; none is `no`
abbrev pub publish_text : Registries → Text
publish_text (everywhere true) = codes "yes"
publish_text (everywhere false) = codes "no"
publish_text (among names) =
    if length names == 0 then codes "no" else join_by (λ text. text) (codes ", ") names

-- a text that may be missing, and that isn't left to the workspace
abbrev pub stated : Option (String Global) → Option (Inheritable Text)
stated text = option_map (λ t. Set (string_bytes t)) text

-- what is told of the member at a place, which has this package and inherits these keys
pub record IsToldOf {M : Type 0} (place : Text) (keys : List Text) (p : PackageMeaning M)
    (member : Member) : Type 0 where
  pub folder : string_bytes member.folder ≡ place
  pub name : string_bytes member.name ≡ p.name
  pub version : option_map parts_text (value_of p.version) ≡ Some (string_bytes member.version)
  pub edition : option_map edition_text (value_of p.edition) ≡ Some (string_bytes member.edition)
  pub rust_version : p.rust_version ≡ stated member.rust_version
  pub license : p.license ≡ stated member.license
  pub publish : option_map publish_text (value_of p.publish) ≡ Some (string_bytes member.publish)
  pub inherits : map string_bytes member.inherits.items ≡ keys

-- the same, by its manifest
pub record IsMemberOf {M : Type 0} (place : Text) (keys : List Text) (m : ManifestMeaning M)
    (member : Member) : Type 0 where
  pub of : PackageMeaning M
  pub is : m.«package» ≡ Some of
  pub told : IsToldOf place keys of member

-- the package leaves to its workspace what is told of a member
abbrev pub leaves_told : {M : Type 0} → PackageMeaning M → Bool
leaves_told p =
    field_is_left p.version
    || (field_is_left p.edition
    || (field_is_left p.publish || (is_left_there p.rust_version || is_left_there p.license)))

-- nothing can be told: there is no package, or it does so
abbrev pub is_untold : {M : Type 0} → ManifestMeaning M → Bool
is_untold m = option_map_or leaves_told m.«package» true
