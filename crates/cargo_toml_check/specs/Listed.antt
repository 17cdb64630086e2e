-- Resolved features as JSON.
use Rattle.std.specs.Prelude.{◌≡◌, ◌||◌, Bool, List, [], ◌∷◌, codes, is_some, length, map, nat_lt}
use Rattle.std.specs.{BTreeMap.BTreeMap, BTreeSet.BTreeSet, List.flat_map, List.list_any, Prelude.ℕ}
use Rattle.std.specs.{Borrow.Bor, HashMap.HashMap, Option.option_copied, Option.option_map_or}
use Rattle.serde_json.specs.Data.{Data, boolean, no_members, object}
use Rattle.cargo_toml.specs.{Action.Text, Feature.Feature, Targets.TargetMeaning}
use Rattle.cargo_toml.specs.{Manifests.ManifestMeaning, Views.set_has, Views.value_at}
use Rattle.cargo_toml_features.specs.declared.features.{DepAction.DepAction, Features.Features}
use Rattle.cargo_toml_tools.specs.IndexEntries.{text_array, text_or_null, with_rows}

abbrev pub texts_json : List (Bor Text) → Data
texts_json ts = text_array (map (λ t. t.now) ts)

abbrev pub stands_for_json : BTreeSet (Bor Text) → Data
stands_for_json texts = texts_json texts.keys

abbrev pub action_json : DepAction → Data
action_json a = object (with_rows ((codes "conditional", boolean a.is_conditional)
    ∷ (codes "dep_only", boolean a.is_dep_only)
    ∷ (codes "features", texts_json a.dep_features.keys) ∷ []) no_members)

abbrev pub actions_json : BTreeMap (Bor Text) DepAction → Data
actions_json actions =
    object (with_rows (map (λ e. (e.0.now, action_json e.1)) actions.entries) no_members)

abbrev pub feature_json : Feature → Data
feature_json v = object (with_rows ((codes "listed", boolean v.explicit)
    ∷ (codes "public", boolean v.public)
    ∷ (codes "text", text_or_null (option_copied v.doc))
    ∷ (codes "names", texts_json v.enables_features.keys)
    ∷ (codes "dependencies", actions_json v.enables_deps)
    ∷ (codes "enabled_by", texts_json v.enabled_by.keys)
    ∷ (codes "binaries", texts_json v.required_by_bins.items) ∷ []) no_members)

-- what a hashed map has under a name, if anything, as a member
abbrev pub row_at : {X S : Type 0} → (X → Data) → HashMap (Bor Text) X S → Text
    → List (Text × Data)
row_at json found f = option_map_or (λ x. (f, json x) ∷ []) (value_at found f) []

-- an object with all that a hashed map has, each once, by its names
pub record AreMembers {X S : Type 0} (json : X → Data) (found : HashMap (Bor Text) X S)
    (all : Data) : Type 0 where
  pub names : BTreeSet (Bor Text)
  pub exact : (f : Text) → set_has names f ≡ is_some (value_at found f)
  pub members : all ≡ object (with_rows (flat_map (λ k. row_at json found k.now) names.keys)
      no_members)

-- at a limit of items
module _ (limit : ℕ) where
  -- more than count
  abbrev pub is_over : ℕ → Bool
  is_over n = nat_lt limit n

  abbrev pub is_cut_target : TargetMeaning → Bool
  is_cut_target t =
      is_over (length t.dependencies)
      || (is_over (length t.build_dependencies) || is_over (length t.dev_dependencies))

  abbrev pub are_cut_targets : List (Text × TargetMeaning) → Bool
  are_cut_targets ts = list_any (λ t. is_cut_target t.1) ts

  abbrev pub has_long : List (Text × List Text) → Bool
  has_long fs = list_any (λ f. is_over (length f.1)) fs

  -- the manifest has more features, more texts of one, or more keys of a table of dependencies,
  -- than count
  abbrev pub is_cut : {M : Type 0} → ManifestMeaning M → Bool
  is_cut m =
      is_over (length m.features)
      || (has_long m.features
      || (is_over (length m.dependencies)
      || (is_over (length m.build_dependencies)
      || (is_over (length m.dev_dependencies) || are_cut_targets m.target))))

-- the features that are left, those that were removed, and whether there are more than count
pub record IsListing {S H : Type 0} (cut : Bool) (resolved : Features S H) (all : Data)
    : Type 0 where
  pub features : Data
  pub each : AreMembers feature_json resolved.features features
  pub hidden : Data
  pub removed : AreMembers stands_for_json resolved.hidden_features hidden
  pub whole : all ≡ object (with_rows ((codes "cut", boolean cut) ∷ (codes "features", features)
      ∷ (codes "hidden", hidden) ∷ []) no_members)
