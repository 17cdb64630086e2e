-- What `audit` answers, by what was read: the answers of the system, and a manifest at each place.
use Rattle.std.specs.Prelude.{◌≡◌, ◌≢◌, ◌⊎◌, ◌++◌, ◌&&◌, ◌||◌, ◌==◌, Bool, true, false, List, [], ℕ}
use Rattle.std.specs.Prelude.{◌∷◌, Option, Some, IsTrue, bytes_eq, codes, filter, if◌then◌else◌}
use Rattle.std.specs.Prelude.{is_none, map, not, option_map, string_bytes}
use Rattle.std.specs.BTreeMap.{btree_map_len, get_by_text}
use Rattle.std.specs.{IoError.error_kind, List.flat_map, List.list_any, Option.option_map_or}
use Rattle.toml.specs.declared.value.Value.{Value}
use Rattle.cargo_toml.specs.Dependencies.{DependencyMeaning, dependency_meaning, detailed}
use Rattle.cargo_toml.specs.RealFiles.{IsCompletionFault, is_absent, real_folders, real_roots}
use Rattle.cargo_toml.specs.Error.{Error, Memory, out-Error}
use Rattle.cargo_toml.specs.{Completed.IsCompleted}
use Rattle.cargo_toml.specs.{Action.Text, InheritedDependencies.is_left, Templates.template_meaning}
use Rattle.cargo_toml.specs.{Choosing.MayFind, Manifest.Manifest, Workspace.Workspace}
use Rattle.cargo_toml.specs.{Faults.IsOther, Manifests.held, Reads.map_meaning, Sharing.shared_of}
use Rattle.cargo_toml_parts.specs.declared.error.Error.TheOpen.{Error-F}
use Rattle.cargo_toml_lint.specs.{declared.finding.Finding.Finding, Findings.code_level}
use Rattle.cargo_toml_tools.specs.FromFiles.{IsManifestIn, IsUnreadable}
use Rattle.cargo_toml_tools.specs.{Linted.AreFindingsOf, Indexed.is_error}
use Rattle.cargo_toml_audit.specs.Entries.{Listed, asked_in, asking_of, entries_of, inherited_in}
use Rattle.cargo_toml_audit.specs.MemberFolders.{Disk, disk_of, is_wrong, places_if_right}
use Rattle.cargo_toml_audit.specs.MemberFolders.{places_once, repeats}
use Rattle.cargo_toml_audit.specs.Oddities.{Gain, Oddity, both, differences, found_each, found_if}
use Rattle.cargo_toml_audit.specs.Oddities.{found_in, has_no_target, is_bare, oddities_of}
use Rattle.cargo_toml_audit.specs.Oddities.{only_found, overall_oddities, refusals}
use Rattle.cargo_toml_audit.specs.Places.{excludes, is_in, lies_in, manifest_path, place_of}
use Rattle.cargo_toml_audit.specs.declared.audit.Code.TheVariants as kind
use Rattle.cargo_toml_audit.specs.{Entries.left_keys, Limits.IsTooMany, MemberFolders.unseen}
use Rattle.cargo_toml_audit.specs.{Audited.IsMemberOf, Audited.is_untold}
use Rattle.cargo_toml_audit.specs.{declared.audit.Code.Code}
use Rattle.cargo_toml_audit.specs.{declared.audit.Audit.Audit, declared.audit.Member.Member}
use Rattle.cargo_toml_audit.specs.{declared.audit.root.Root.Root, declared.members.walk.Looks.Looks}

-- ---- a place

-- what is made of a member's manifest: nothing, for a fault of completion; a manifest of which no
-- member can be told; or a manifest and a member
pub data Made : Type 0 where
  incomplete : Error → Made
  untold : Manifest Value → Made
  told : Manifest Value → Member → Made

-- What was read at a place: nothing, for a fault; a manifest that is none of the workspace's, with
-- the fault of completing it, if any; the root's, without a package; or a member's. Of that also
-- whether it lies in the workspace's folder or leads there, and whether its features have errors.
pub data Content : Type 0 where
  unread : Error → Content
  foreign : Option Error → Content
  rootless : Manifest Value → Content
  belongs : Bool → Bool → Manifest Value → Made → Content

pub record Reading : Type 0 where
  pub place : Text
  pub content : Content

-- how a fault of a place is found
abbrev pub refusal_code : Error → Code
refusal_code e = elim (out-Error e) as (λ _. Code) [
  | Error-F.Io fault ↦ if is_absent (error_kind fault) then kind.Absent else kind.Incomplete
  | _ ↦ kind.Incomplete
]

abbrev pub refusal : Text → Error → List Oddity
refusal place e = found_if (refusal_code e) true place

-- whether it is the place of a member, or of what is refused as one
abbrev pub is_member : Content → Bool
is_member (foreign fault) = false
is_member _ = true

-- the places of what a dependency leads to by its path, which stands in a folder
abbrev pub need_at : Text → DependencyMeaning → List Text
need_at folder (detailed d) = option_map_or (λ path. place_of folder path ∷ []) d.path []
need_at folder _ = []

-- no root is looked for where a workspace is handed in
abbrev pub none_found : MayFind
none_found hint m path = ⊥

-- some finding of `lint` is an error, or none is
abbrev pub has_error : List Finding → Bool
has_error xs = list_any (λ x. is_error (code_level x.code)) xs

abbrev pub HasErrors : Manifest Value → Bool → Type 0
HasErrors m errors =
    (xs : List Finding) × (AreFindingsOf (held m) xs × (errors ≡ has_error xs))

abbrev pub places_read : List Reading → List Text
places_read readings = map (λ r. r.place) readings

-- those of members
abbrev pub member_places : List Reading → List Text
member_places readings = places_read (filter (λ r. is_member r.content) readings)

-- ---- default members

-- whether a place is listed, whether it is then entered, as it isn't excluded, and whether it is
-- that of a member
pub record Knows : Type 0 where
  pub listed : Text → Bool
  pub entered : Text → Bool
  pub members : Text → Bool

abbrev pub is_astray : Knows → Text → Bool
is_astray k p = not (k.members p) && not (k.listed p && not (k.entered p))

-- ---- what a report takes, behind what it had
abbrev pub held_in : Audit → Gain
held_in a = record {
  members = a.members.items;
  found = oddities_of a.findings;
  inherited = map string_bytes a.inherited.items;
  asked = map asking_of a.uses.items;
}

pub record Takes (g : Gain) (old new : Audit) : Type 0 where
  pub root : new.root ≡ old.root
  pub members : new.members.items ≡ old.members.items ++ g.members
  pub found : oddities_of new.findings ≡ oddities_of old.findings ++ g.found
  pub inherited : map string_bytes new.inherited.items
      ≡ map string_bytes old.inherited.items ++ g.inherited
  pub asked : map asking_of new.uses.items ≡ map asking_of old.uses.items ++ g.asked

-- ---- a workspace: its place, the path of its manifest, that manifest, and its table there
pub record Base : Type 0 where
  pub place : Text
  pub path : Text
  pub manifest : Manifest Value
  pub workspace : Workspace Value

abbrev pub base_of : Root → Base
base_of root = record {
  place = root.place.now;
  path = root.path.now;
  manifest = root.manifest.now;
  workspace = root.workspace.now;
}

module _ (base : Base) where
  abbrev pub member_entries : List Text
  member_entries = map string_bytes base.workspace.members.items

  abbrev pub is_excluded : Text → Bool
  is_excluded place =
      excludes base.place (map string_bytes base.workspace.exclude.items) member_entries place

  -- what a dependency of a manifest at a place leads to by a path, its own or that of the
  -- workspace's dependency that it inherits
  abbrev pub shared_need : Text → List Text
  shared_need key =
      option_map_or (λ d. need_at base.place (dependency_meaning d))
      (get_by_text base.workspace.dependencies key) []

  abbrev pub need_by : Text → Listed → List Text
  need_by place e = need_at place e.1.1 ++ (if is_left e.1.1 then shared_need e.1.0 else [])

  abbrev pub needs_of : Text → Content → List Text
  needs_of place (belongs own errors m made) = flat_map (need_by place) (entries_of (held m))
  needs_of place _ = []

  -- what a report takes of a place, and of several
  abbrev pub refusals_at : Text → Bool → Bool → Manifest Value → List Oddity
  refusals_at place own errors m =
      found_in place
      (refusals place base.place (btree_map_len base.workspace.lints == 0) own errors (held m))

  abbrev pub targets_found : Text → Manifest Value → List Oddity
  targets_found place new = found_if kind.NoTarget (has_no_target (held new)) place

  abbrev pub gain_made : Text → Made → Gain
  gain_made place (incomplete e) = only_found (refusal place e)
  gain_made place (untold new) =
      only_found (targets_found place new ++ found_if kind.Incomplete true place)
  gain_made place (told new member) = record {
    members = member ∷ [];
    found = targets_found place new
        ++ differences (option_map template_meaning base.workspace.«package») member;
    inherited = [];
    asked = asked_in (entries_of (held new));
  }

  abbrev pub gain_of : Text → Content → Gain
  gain_of place (unread e) = only_found (refusal place e)
  gain_of place (foreign fault) = only_found (option_map_or (refusal place) fault [])
  gain_of place (rootless m) = only_found (found_if kind.Virtual (not (is_bare m)) place)
  gain_of place (belongs own errors m made) =
      both (record {
        members = [];
        found = refusals_at place own errors m;
        inherited = inherited_in (entries_of (held m));
        asked = [];
      }) (gain_made place made)

  abbrev pub gain_of_all : List Reading → Gain
  gain_of_all [] = only_found []
  gain_of_all (r ∷ rs) = both (gain_of r.place r.content) (gain_of_all rs)

  -- ---- what was read at a place is this

  -- the root's manifest, without a package
  abbrev pub is_rootless : Text → Manifest Value → Bool
  is_rootless place m = bytes_eq place base.place && is_none m.«package»

  abbrev pub IsCompletedThere : Manifest Value → Manifest Value → Type 0
  IsCompletedThere m new =
      IsCompleted m (Some (shared_of base.manifest.workspace, base.path)) real_roots none_found
      real_folders new

  abbrev pub IsMade : Text → Manifest Value → Made → Type 0
  IsMade place m (incomplete e) =
      (e ≢ Memory) × IsCompletionFault (manifest_path place) (held m)
      (Some (shared_of base.manifest.workspace, base.path)) e
  IsMade place m (untold new) = IsCompletedThere m new × IsTrue (is_untold (held new))
  IsMade place m (told new member) =
      IsCompletedThere m new × IsMemberOf place (left_keys (held m)) (held new) member

  -- a manifest that some text reads as. It counts as the workspace's own where its place lies in
  -- the folder of that, and may elsewhere. Where it doesn't count so, a list has to lead to it
  pub record IsMemberAt (is_listed : Bool) (place : Text) (own errors : Bool)
      (m : Manifest Value) (made : Made) : Type 0 where
    pub written : (text : Text) × IsManifestIn text m
    pub with_package : is_rootless place m ≡ false
    pub within : IsTrue (lies_in place base.place) → IsTrue own
    pub listed : IsTrue (is_listed || own)
    pub errors_are : HasErrors m errors
    pub is_made : IsMade place m made

  abbrev pub IsContent : Bool → Text → Content → Type 0
  IsContent is_listed place (unread e) = (e ≢ Memory) × IsUnreadable e
  IsContent is_listed place (foreign fault) = is_listed || lies_in place base.place ≡ false
  IsContent is_listed place (rootless m) =
      ((text : Text) × IsManifestIn text m) × (is_rootless place m ≡ true)
  IsContent is_listed place (belongs own errors m made) =
      IsMemberAt is_listed place own errors m made

  -- what is read of the places that wait, the last one first: of each that was neither read before
  -- nor is excluded. What it leads to waits behind the others.
  pub data Reads (first : List Text) : List Text → List Reading → List Reading → Type 0 where
    ended : (read : List Reading) → Reads first [] read read
    passed : (p : Text) (waiting : List Text) (read all : List Reading)
        → (is_in (places_read read) p || is_excluded p) ≡ true
        → Reads first waiting read all → Reads first (waiting ++ p ∷ []) read all
    looked : (p : Text) (content : Content) (waiting : List Text) (read all : List Reading)
        → (is_in (places_read read) p || is_excluded p) ≡ false
        → IsContent (is_in first p) p content
        → Reads first (waiting ++ needs_of p content)
        (read ++ record { place = p; content = content } ∷ []) all
        → Reads first (waiting ++ p ∷ []) read all

  abbrev pub AreRead : List Text → List Reading → Type 0
  AreRead first readings = Reads first first [] readings

  -- ---- the report
  module _ (disk : Disk) where
    abbrev pub listed_places : List Text
    listed_places = flat_map (places_once disk base.place) member_entries

    -- those that aren't excluded, and the root
    abbrev pub entered_places : List Text
    entered_places = filter (λ p. not (is_excluded p)) listed_places

    abbrev pub first_places : List Text
    first_places = entered_places ++ base.place ∷ []

    -- an entry of `default-members` leads to a place that is no member's, nor listed and excluded
    abbrev pub astray : Knows → Text → List Oddity
    astray k entry =
        found_if kind.DefaultMember
        (list_any (is_astray k) (places_if_right disk base.place entry)) entry

  abbrev pub default_entries : List Text
  default_entries = map string_bytes base.workspace.default_members.items

  -- what is found of the lists
  abbrev pub found_in_lists : List Text → List Oddity
  found_in_lists places =
      found_each kind.ListedTwice (repeats places)
      ++ (found_each kind.BadPattern (filter is_wrong member_entries)
      ++ found_each kind.BadPattern (filter is_wrong default_entries))

  abbrev pub knows : Disk → List Reading → Knows
  knows disk readings = record {
    listed = is_in (listed_places disk);
    entered = is_in (entered_places disk);
    members = is_in (member_places readings);
  }

  -- what else is found by the lists: of the place that is asked for, of default members, and of
  -- what couldn't be looked at
  abbrev pub found_beside : Looks → Disk → Knows → Text → List Oddity
  found_beside looks disk k asked =
      found_if kind.Unlisted (not (k.members asked)) asked
      ++ (flat_map (astray disk k) default_entries ++ found_each kind.Unseen (unseen looks))

  abbrev pub all_found : Looks → List Reading → Text → List Oddity
  all_found looks readings asked =
      found_in_lists (entered_places (disk_of looks))
      ++ ((gain_of_all readings).found
      ++ (found_beside looks (disk_of looks) (knows (disk_of looks) readings) asked
      ++ overall_oddities (map_meaning dependency_meaning base.workspace.dependencies)
      (gain_of_all readings)))

  -- by what the system answered, and by what was read of all that is looked at
  pub record IsReport (asked : Text) (audit : Audit) : Type 0 where
    pub looks : Looks
    pub readings : List Reading
    pub read : AreRead (first_places (disk_of looks)) readings
    pub members : audit.members.items ≡ (gain_of_all readings).members
    pub found : oddities_of audit.findings ≡ all_found looks readings asked

-- the report on a workspace that some text reads as
pub record IsAudited (audit : Audit) : Type 0 where
  pub base : Base
  pub asked : Text
  pub written : (text : Text) × IsManifestIn text base.manifest
  pub has : base.manifest.workspace ≡ Some base.workspace
  pub path : base.path ≡ manifest_path base.place
  pub place : string_bytes audit.root ≡ base.place
  pub report : IsReport base asked audit

-- why there is none, with so many steps left: a file can't be read, there is no workspace, or it
-- has too many places, and then no step is left
abbrev pub IsReportFault : ℕ → Error → Type 0
IsReportFault left e =
    IsUnreadable e
    ⊎ (IsOther (codes "there is no workspace") e ⊎ (IsTooMany e × (left ≡ 0)))

-- the same, whatever is left
abbrev pub IsAuditFault : Error → Type 0
IsAuditFault e =
    IsUnreadable e ⊎ (IsOther (codes "there is no workspace") e ⊎ IsTooMany e)
