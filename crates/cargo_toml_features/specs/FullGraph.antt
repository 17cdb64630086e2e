-- Words of the steps to the full graph, on which no public contract rests.
use Rattle.std.specs.Prelude.{◌≡◌, ◌∷◌, ◌++◌, ◌||◌, [], ℕ, Bool, List, if◌then◌else◌, bytes_eq}
use Rattle.std.specs.Prelude.{codes, length, map, nat_lt, string_bytes, take, ◌&&◌, Option, Some}
use Rattle.std.specs.Prelude.{None, is_some, option_map, unwrap_or, false, not}
use Rattle.std.specs.{Option.option_map_or, Option.option_or, Option.ForSome, Ordering.is_eq}
use Rattle.std.specs.{List.list_any}
use Rattle.cargo_toml_features.specs.{declared.admit.Listing.Listing, Marks.detail_in}
use Rattle.cargo_toml_features.specs.{Marks.named_details, Views.listed_of, Views.recorded_in}
use Rattle.cargo_toml_features.specs.declared.features.FeatureDependency.{FeatureDependency}
use Rattle.cargo_toml_features.specs.{declared.record.Mentions.Mentions, Recorded.Entry}
use Rattle.cargo_toml_features.specs.Recorded.{RecordedKey, target_cmp, first_target, is_redundant}
use Rattle.cargo_toml_features.specs.Recorded.{recorded_of}
use Rattle.cargo_toml_features.specs.{Slots.held_in, Slots.Relates, declared.slots.Slots.Slots}
use Rattle.cargo_toml_features.specs.{InOrder.feature_at, Searching.has_key}
use Rattle.cargo_toml_features.specs.Vertices.{vertex_at}
use Rattle.cargo_toml_features.specs.declared.features.Feature.{Feature}
use Rattle.cargo_toml_features.specs.declared.slots.RedundantFeatures.{RedundantFeatures}
use Rattle.cargo_toml_graph.specs.Action.{Text}
use Rattle.cargo_toml_package.specs.Dependencies.{is_optional, package_of}

-- there is room for one more, or it is `default`
abbrev pub has_place : ℕ → List Listing → Text → Bool
has_place limit listings name = nat_lt (length listings) limit || bytes_eq name (codes "default")

-- the listing l is put at the end with its first actions, where it has a place
pub record AddsListing (limit : ℕ) (l : Listing) (old new : List Listing) : Type 0 where
  -- what the listings list
  pub listed : listed_of new
      ≡ (if has_place limit old l.name.now
      then listed_of old ++ (l.name.now, take limit (map string_bytes l.actions.now)) ∷ []
      else listed_of old)
  -- what they say beside
  pub details : named_details new
      ≡ (if has_place limit old l.name.now
      then named_details old ++ (l.name.now, detail_in l.detail) ∷ []
      else named_details old)

-- ---- entries of dependency tables, recorded one after another
-- what a map of dependencies records of a key
abbrev pub recorded_at : Slots FeatureDependency → Text → Option RecordedKey
recorded_at m k = option_map recorded_in (held_in m k)

-- what e records of its key before its target
abbrev pub recorded_nowhere : Entry → RecordedKey
recorded_nowhere e =
    record { crate_name = unwrap_or (package_of e.dependency) e.key; targets = λ _. None }

-- e comes after what is recorded: only a target of its own counts
abbrev pub recorded_next : RecordedKey → Entry → RecordedKey
recorded_next r e = record {
  crate_name = r.crate_name;
  targets =
      λ t. option_or (r.targets t)
      (if is_eq (target_cmp t e.target) then Some e.dependency else None);
}

abbrev pub recorded_with : Option RecordedKey → Entry → RecordedKey
recorded_with o e = recorded_next (unwrap_or o (recorded_nowhere e)) e

-- k is a feature that is listed, or one acts on it
abbrev pub is_mentioned_in : Mentions → Text → Bool
is_mentioned_in m k =
    option_map_or (λ v. v.is_listed) (vertex_at m.vertices.items k) false
    || has_key m.acted.keys k

-- what is recorded of q after e, where o was recorded of q before: e counts if its key is recorded
-- already or mentioned, or e is optional
abbrev pub recorded_after : (Text → Bool) → Entry → Text → Option RecordedKey → Option RecordedKey
recorded_after mentioned e q o =
    if bytes_eq e.key q && (is_some o || (is_optional e.dependency || mentioned q))
    then Some (recorded_with o e) else o

-- an entry that counts by itself, by which keys are mentioned
abbrev pub counts_alone : (Text → Bool) → Entry → Bool
counts_alone mentioned e = is_optional e.dependency || mentioned e.key

-- the same of an entry of the key k
abbrev pub counts_at : (Text → Bool) → Text → Entry → Bool
counts_at mentioned k e = bytes_eq e.key k && (is_optional e.dependency || mentioned k)

-- ---- actions without the features that dependencies have anyway
-- of each key the map records what these entries say
abbrev pub IsRecordOf : Slots FeatureDependency → (Text → List Entry) → Type 0
IsRecordOf m entries = (k : Text) → recorded_at m k ≡ recorded_of (entries k)

-- x is one of the features
abbrev pub has_redundant : Option RedundantFeatures → Text → Bool
has_redundant None x = false
has_redundant (Some r) x = (r.has_default && bytes_eq x (codes "default")) || has_key r.listed x

-- under each key stand those that the first target of its entries has anyway
abbrev pub AreRedundantOf : Slots RedundantFeatures → (Text → List Entry) → Type 0
AreRedundantOf m entries =
    (k x : Text) → has_redundant (held_in m k) x ≡ is_redundant (first_target (entries k)) x

-- what is recorded of k, and what stands under it if there is a list, is what these entries say
pub record IsSaidOf (m : Slots FeatureDependency) (o : Option (Slots RedundantFeatures)) (k : Text)
    (es : List Entry) : Type 0 where
  pub recorded : recorded_at m k ≡ recorded_of es
  pub listed : ForSome o (λ r. (x : Text) → has_redundant (held_in r k) x
      ≡ is_redundant (first_target es) x)

-- ---- features that optional dependencies imply
-- an optional entry of the key q
abbrev pub is_optional_at : Text → Entry → Bool
is_optional_at q e = bytes_eq e.key q && is_optional e.dependency

-- some entry is optional, and its key is not reserved
abbrev pub is_offered : (Text → Bool) → List Entry → Text → Bool
is_offered reserved entries q = list_any (is_optional_at q) entries && not (reserved q)

-- the entry is optional, and its key is not reserved
abbrev pub is_offered_alone : (Text → Bool) → Entry → Bool
is_offered_alone reserved e = is_optional e.dependency && not (reserved e.key)

-- ---- features that learn which binaries require them
-- the feature gained these binaries, and nothing else changed
pub record Required (more : List Text) (old new : Feature) : Type 0 where
  pub same : new ≡ record old { required_by_bins = new.required_by_bins }
  pub bins : map (λ b. b.now) new.required_by_bins.items
      ≡ map (λ b. b.now) old.required_by_bins.items ++ more

-- so did each feature
pub record RequiredAll (own : Text → List Text) (old new : List Feature) : Type 0 where
  pub at : (q : Text) → Relates (Required (own q)) (feature_at old q) (feature_at new q)
