-- What a report finds odd: of a place, of a member, and of all members together.
use Rattle.std.specs.Prelude.{◌++◌, ◌&&◌, ◌||◌, ◌==◌, Bool, true, false, List, [], ◌∷◌, Option}
use Rattle.std.specs.Prelude.{Some, None, String, Vec, bytes_eq, codes, if◌then◌else◌, is_none}
use Rattle.std.specs.Prelude.{is_some, length, map, not, option_and_then, option_map, string_bytes}
use Rattle.std.specs.BTreeMap.{BTreeMap, btree_map_len}
use Rattle.std.specs.List.{flat_map, list_any}
use Rattle.std.specs.{declared.alloc.Global.Global, Option.option_map_or}
use Rattle.cargo_toml.specs.Dependencies.{DependencyMeaning, inherited, is_optional}
use Rattle.cargo_toml.specs.{InheritedDependencies.Entries, InheritedPackages.field_is_left}
use Rattle.cargo_toml.specs.{Action.Text, Manifests.ManifestMeaning, Templates.TemplateMeaning}
use Rattle.cargo_toml.specs.{Inheritable.Inheritable, Inheritable.TheVariants.Inherited}
use Rattle.cargo_toml.specs.{Inheritable.TheVariants.Set, Manifest.Manifest, Manifests.held}
use Rattle.cargo_toml.specs.{Packages.PackageMeaning, Settings.edition_text}
use Rattle.cargo_toml_audit.specs.declared.audit.Code.TheVariants as kind
use Rattle.cargo_toml_audit.specs.{Entries.Asking, Entries.Listed, Entries.entries_of, Places.is_in}
use Rattle.cargo_toml_audit.specs.{Places.place_of, MemberFolders.repeats, declared.audit.Code.Code}
use Rattle.cargo_toml_audit.specs.{declared.audit.Finding.Finding, declared.audit.Member.Member}

-- what a finding tells: its code, and the place, dependency or entry that it is about. Its words
-- are for people
pub record Oddity : Type 0 where
  pub code : Code
  pub subject : Text

abbrev pub oddity_of : Finding → Oddity
oddity_of f = record { code = f.code; subject = string_bytes f.subject }

abbrev pub oddities_of : Vec Finding Global → List Oddity
oddities_of findings = map oddity_of findings.items

-- what is found of a subject, of several, and by several codes
abbrev pub found_if : Code → Bool → Text → List Oddity
found_if code holds subject = if holds then record { code = code; subject = subject } ∷ [] else []

abbrev pub found_each : Code → List Text → List Oddity
found_each code subjects = flat_map (found_if code true) subjects

abbrev pub found_in : Text → List (Code × Bool) → List Oddity
found_in subject rows = flat_map (λ r. found_if r.0 r.1 subject) rows

-- ---- what a member has otherwise than its workspace gives: its edition, and its licence

abbrev pub has_given : Option Text → Text → Bool
has_given own given = option_map_or (bytes_eq given) own false

abbrev pub other_of : Code → Text → Option Text → Option Text → List Oddity
other_of code folder own None = []
other_of code folder own (Some given) = found_if code (not (has_given own given)) folder

abbrev pub differences : Option TemplateMeaning → Member → List Oddity
differences template member =
    option_map_or
    (λ t. other_of kind.OtherEdition (string_bytes member.folder)
    (Some (string_bytes member.edition)) (option_map edition_text t.edition)
    ++ other_of kind.OtherLicense (string_bytes member.folder)
    (option_map string_bytes member.license) t.license)
    template []

-- ---- what Cargo refuses of a member's manifest as it is written

-- the workspace that a package names, by the path of its folder; it is another than the root's
abbrev pub named_by : {M : Type 0} → Option (PackageMeaning M) → Option Text
named_by p = option_and_then (λ q. q.workspace) p

abbrev pub leads_elsewhere : Text → Text → Option Text → Bool
leads_elsewhere place root named =
    option_map_or (λ path. not (bytes_eq (place_of place path) root)) named false

-- a dependency has `workspace = false`
abbrev pub is_false : DependencyMeaning → Bool
is_false (inherited i) = not i.workspace
is_false _ = false

abbrev pub is_not_inherited : List Listed → Bool
is_not_inherited es = list_any (λ e. is_false e.1.1) es

-- of the manifest at a place: whether the workspace at this root has no lints; whether the place
-- lies in its folder, or leads to it; and whether `lint` finds errors in the features
abbrev pub refusals : {M : Type 0} → Text → Text → Bool → Bool → Bool → ManifestMeaning M
    → List (Code × Bool)
refusals place root lacks_lints own errors m =
    (kind.Features, errors)
    ∷ (kind.NoLints, lacks_lints && field_is_left m.lints)
    ∷ (kind.NotInherited, is_not_inherited (entries_of m))
    ∷ (
      kind.OtherWorkspace,
      leads_elsewhere place root (named_by m.«package») && not (is_some m.workspace),
    )
    ∷ (kind.Outside, not own && not (is_some (named_by m.«package»)))
    ∷ (kind.TwoWorkspaces, is_some (named_by m.«package») && is_some m.workspace)
    ∷ (kind.WorkspaceWithin, is_some m.workspace && not (bytes_eq place root)) ∷ []

-- a package that is completed has nothing to build
abbrev pub lacks_targets : {M : Type 0} → ManifestMeaning M → Bool
lacks_targets m =
    is_none m.lib && ((length m.bin == 0) && ((length m.example == 0)
    && ((length m.test == 0) && (length m.bench == 0))))

abbrev pub has_no_target : {M : Type 0} → ManifestMeaning M → Bool
has_no_target m = is_some m.«package» && lacks_targets m

abbrev pub lacks_lints : {V : Type 0} → Inheritable (BTreeMap (String Global) V) → Bool
lacks_lints (Set lints) = btree_map_len lints == 0
lacks_lints Inherited = false

-- a manifest has no targets, dependencies, features and lints: Cargo takes a root without a package
-- only so
abbrev pub is_bare : {M : Type 0} → Manifest M → Bool
is_bare m =
    lacks_targets (held m) && ((btree_map_len m.dependencies == 0)
    && ((btree_map_len m.dev_dependencies == 0) && ((btree_map_len m.build_dependencies == 0)
    && ((btree_map_len m.target == 0) && ((btree_map_len m.features == 0)
    && lacks_lints m.lints)))))

-- ---- what a report takes, behind what it had
pub record Gain : Type 0 where
  pub members : List Member
  pub found : List Oddity
  pub inherited : List Text
  pub asked : List Asking

abbrev pub only_found : List Oddity → Gain
only_found os = record { members = []; found = os; inherited = []; asked = [] }

abbrev pub both : Gain → Gain → Gain
both g h = record {
  members = g.members ++ h.members;
  found = g.found ++ h.found;
  inherited = g.inherited ++ h.inherited;
  asked = g.asked ++ h.asked;
}

-- ---- what only all members together show

-- of a dependency of the workspace: no member inherits it, and it is optional
abbrev pub shared_oddities : (Text → Bool) → Text × DependencyMeaning → List Oddity
shared_oddities inherits e =
    found_if kind.UnusedDependency (not (inherits e.0)) e.0
    ++ found_if kind.OptionalShared (is_optional e.1) e.0

-- a crate is asked for that was before, and by a requirement that is new
abbrev pub asking_key : Asking → Text
asking_key a = a.requirement ++ codes "|" ++ a.name

abbrev pub further_of : (Text → Bool) → (Text → Bool) → Asking → List Oddity
further_of names keys a =
    found_if kind.SeveralRequirements (names a.name && not (keys (asking_key a))) a.name

abbrev pub further_from : (Text → Bool) → (Text → Bool) → List Asking → List Oddity
further_from names keys [] = []
further_from names keys (a ∷ others) =
    further_of names keys a
    ++ further_from (λ t. names t || bytes_eq a.name t) (λ t. keys t || bytes_eq (asking_key a) t)
    others

-- all that, by the dependencies of the workspace, and what a report took of its members
abbrev pub overall_oddities : Entries → Gain → List Oddity
overall_oddities dependencies g =
    flat_map (shared_oddities (is_in g.inherited)) dependencies
    ++ (found_each kind.SameName (repeats (map (λ m. string_bytes m.name) g.members))
    ++ further_from (λ t. false) (λ t. false) g.asked)
