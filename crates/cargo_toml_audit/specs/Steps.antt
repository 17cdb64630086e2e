-- What the steps of `audit`, and its walk over places, add to a report: nothing here has to be
-- believed.
use Rattle.std.specs.Prelude.{◌≡◌, ◌++◌, Bool, List, String, Vec, map, string_bytes, ◌⊎◌, ◌&&◌}
use Rattle.std.specs.Prelude.{◌||◌, bytes_eq, false, true}
use Rattle.std.specs.{BTreeSet.contains_text, declared.alloc.Global.Global}
use Rattle.toml.specs.declared.value.Value.{Value}
use Rattle.cargo_toml.specs.{Action.Text, Manifest.Manifest, Manifests.held}
use Rattle.cargo_toml_audit.specs.AuditedFiles.{AreRead, IsMade, Knows, Made, Reading, Takes}
use Rattle.cargo_toml_audit.specs.AuditedFiles.{Base, entered_places, found_in_lists, listed_places}
use Rattle.cargo_toml_audit.specs.AuditedFiles.{Content, IsContent, gain_of, is_member, needs_of}
use Rattle.cargo_toml_audit.specs.AuditedFiles.{first_places, gain_made, gain_of_all, member_places}
use Rattle.cargo_toml_audit.specs.declared.auditing.walk.Walk.{Walk}
use Rattle.cargo_toml_audit.specs.{Entries.left_keys, MemberFolders.Disk, Oddities.oddities_of}
use Rattle.cargo_toml_audit.specs.{Places.is_in, declared.audit.Audit.Audit}
use Rattle.cargo_toml_audit.specs.{declared.audit.Finding.Finding, declared.auditing.Known.Known}

abbrev pub known_of : Known → Knows
known_of k = record {
  listed = contains_text k.listed;
  entered = contains_text k.entered;
  members = contains_text k.members;
}

module _ (base : Base) where
  -- what completion made of a member's manifest is added; the keys that it inherits are known
  pub record AddsMade (place : Text) (m : Manifest Value) (inherits : Vec (String Global) Global)
      (old new : Audit) : Type 0 where
    pub made : Made
    pub is_made : map string_bytes inherits.items ≡ left_keys (held m) → IsMade base place m made
    pub takes : Takes (gain_made base place made) old new

  -- what lies at a place is added
  pub record AddsPlace (is_listed : Bool) (place : Text)
      (seen : Bool × Vec (String Global) Global) (old new : Audit) : Type 0 where
    pub content : Content
    pub is : IsContent base is_listed place content
    pub takes : Takes (gain_of base place content) old new
    pub member : seen.0 ≡ is_member content
    pub needs : map string_bytes seen.1.items ≡ needs_of base place content

  -- what the lists lead to on a disk was read, and what is found of them
  pub record AreListed (disk : Disk) (lists : Vec (String Global) Global × Known)
      (old new : Vec Finding Global) : Type 0 where
    pub first : map string_bytes lists.0.items ≡ first_places base disk
    pub listed : (t : Text) → contains_text lists.1.listed t ≡ is_in (listed_places base disk) t
    pub entered : (t : Text) → contains_text lists.1.entered t ≡ is_in (entered_places base disk) t
    pub found : oddities_of new
        ≡ oddities_of old ++ found_in_lists base (entered_places base disk)

  -- ---- the walk
  -- a place was seen before or is excluded, or it is looked at
  pub record IsLookedAt (excluded is_listed : Bool) (place : Text) (before after : Walk)
      (old new : Audit) : Type 0 where
    pub content : Content
    pub fresh : (contains_text before.seen place || excluded) ≡ false
    pub is : IsContent base is_listed place content
    pub takes : Takes (gain_of base place content) old new
    pub seen : (t : Text) → contains_text after.seen t
        ≡ (contains_text before.seen t || bytes_eq place t)
    pub members : (t : Text) → contains_text after.members t
        ≡ (contains_text before.members t || (is_member content && bytes_eq place t))
    pub waiting : map string_bytes after.waiting.items
        ≡ map string_bytes before.waiting.items ++ needs_of base place content

  abbrev pub Visits : Bool → Bool → Text → Walk → Walk → Audit → Audit → Type 0
  Visits excluded is_listed place before after old new =
      (((contains_text before.seen place || excluded) ≡ true) × ((after ≡ before) × (new ≡ old)))
      ⊎ IsLookedAt excluded is_listed place before after old new

  -- all that is read of these places on is taken in, and so are the members
  pub record Walks (first : List Text) (members : Text → Bool) (old new : Audit) : Type 0 where
    pub readings : List Reading
    pub read : AreRead base first readings
    pub takes : Takes (gain_of_all base readings) old new
    pub are : (t : Text) → members t ≡ is_in (member_places readings) t
