-- The lines that are printed of resolved features.
use Rattle.std.specs.Prelude.{◌≡◌, ◌++◌, Bool, true, false, IfSome, List, [], ◌∷◌, codes, is_some}
use Rattle.std.specs.List.{AllByRecursion, flat_map, join_by}
use Rattle.std.specs.{Borrow.Bor, BTreeMap.BTreeMap, BTreeSet.BTreeSet, Cmp.Lexicographic.slice_cmp}
use Rattle.std.specs.{HashMap.HashMap, Option.option_map_or, Ordering.nat_cmp}
use Rattle.std.specs.{declared.cmp.Ordering.Ordering}
use Rattle.std.specs.BTreeMap as tree
use Rattle.std.specs.BTreeSet as sorted
use Rattle.cargo_toml_features.specs.declared.features.DepAction.{DepAction}
use Rattle.cargo_toml_features.specs.declared.features.Feature.{Feature}
use Rattle.cargo_toml_features.specs.declared.features.Features.{Features}
use Rattle.cargo_toml_features.specs.Views.{set_has, value_at}
use Rattle.cargo_toml_graph.specs.Action.{Text}

-- the order of texts by their bytes
abbrev pub by_bytes : Bor Text → Bor Text → Ordering
by_bytes a b = slice_cmp nat_cmp a.now b.now

-- the texts of a set stand in byte order, each once
abbrev pub TextsAscend : BTreeSet (Bor Text) → Type 0
TextsAscend texts = sorted.IsOrdered by_bytes texts

-- so do the keys of actions
abbrev pub KeysAscend : BTreeMap (Bor Text) DepAction → Type 0
KeysAscend actions = tree.IsOrdered by_bytes actions

-- and the features that each action asks for
abbrev pub AskedAscend : List (Bor Text × DepAction) → Type 0
AskedAscend actions = AllByRecursion (λ e. TextsAscend e.1.dep_features) actions

-- what a feature enables, and what enables it, stands in byte order, each once
pub record FeatureAscends (v : Feature) : Type 0 where
  pub names : TextsAscend v.enables_features
  pub keys : KeysAscend v.enables_deps
  pub asked : AskedAscend v.enables_deps.entries
  pub enablers : TextsAscend v.enabled_by

-- so it is with each feature that is left, and with what stands for each that is removed
pub record FeaturesAscend {S H : Type 0} (features : Features S H) : Type 0 where
  pub left : (f : Text) → IfSome (value_at features.features f) FeatureAscends
  pub hidden : (f : Text) → IfSome (value_at features.hidden_features f) TextsAscend

-- a comma and a space between the items, or "-" for none
abbrev pub between_commas : {X : Type 0} → (X → Text) → List X → Text
between_commas show [] = codes "-"
between_commas show (x ∷ xs) = join_by show (codes ", ") (x ∷ xs)

-- behind a dependency's key: "?" of a conditional action, and "!" of one that is dep-only
abbrev pub marks_by : Bool → Bool → Text
marks_by true true = codes "?!"
marks_by true false = codes "?"
marks_by false true = codes "!"
marks_by false false = []

-- the marks of an action
abbrev pub marks_text : DepAction → Text
marks_text a = marks_by a.is_conditional a.is_dep_only

-- a dependency's key, its marks, and each of its features after a slash
abbrev pub action_text : Bor Text × DepAction → Text
action_text e =
    e.0.now ++ (marks_text e.1 ++ flat_map (λ f. codes "/" ++ f.now) e.1.dep_features.keys)

-- whether the manifest lists the feature
abbrev pub origin_by : Bool → Text
origin_by true = codes " | explicit"
origin_by false = codes " | implied"

-- the same of a feature
abbrev pub origin_text : Feature → Text
origin_text v = origin_by v.explicit

-- the name, and whether the manifest lists the feature
abbrev pub head_text : Feature → Text
head_text v = codes "feature " ++ (v.key.now ++ origin_text v)

-- a mark where the feature is private
abbrev pub privacy_by : Bool → Text
privacy_by true = []
privacy_by false = codes " | private"

-- the same of a feature
abbrev pub privacy_text : Feature → Text
privacy_text v = privacy_by v.public

-- whether the feature is private, and what the manifest says of it
abbrev pub detail_text : Feature → Text
detail_text v = privacy_text v ++ option_map_or (λ t. codes " | doc: " ++ t.now) v.doc []

-- what the feature enables, and what enables or requires it
abbrev pub links_text : Feature → Text
links_text v =
    (codes " | names: " ++ between_commas (λ t. t.now) v.enables_features.keys)
    ++ ((codes " | deps: " ++ between_commas action_text v.enables_deps.entries)
    ++ ((codes " | by: " ++ between_commas (λ t. t.now) v.enabled_by.keys)
    ++ (codes " | bins: " ++ between_commas (λ t. t.now) v.required_by_bins.items)))

-- the line of a feature
abbrev pub feature_line : Feature → Text
feature_line v = head_text v ++ (links_text v ++ (detail_text v ++ (10 ∷ [])))

-- the line of a removed feature, with what stands for it
abbrev pub redirect_line : Text → BTreeSet (Bor Text) → Text
redirect_line name stands_for =
    codes "hidden "
    ++ (name ++ ((codes " | " ++ between_commas (λ t. t.now) stands_for.keys) ++ (10 ∷ [])))

module _ {X S : Type 0} (line : Text → X → Text) (found : HashMap (Bor Text) X S) where
  -- the line of what a hashed map holds under a text, if anything
  abbrev pub line_at : Text → Text
  line_at f = option_map_or (line f) (value_at found f) []

  -- behind a text stands the line of each thing that the map holds, in byte order of the keys
  pub record AddsLines (old new : Text) : Type 0 where
    pub names : BTreeSet (Bor Text)
    pub in_order : TextsAscend names
    pub all : (f : Text) → set_has names f ≡ is_some (value_at found f)
    pub lines : new ≡ old ++ flat_map (λ k. line_at k.now) names.keys

-- a line for each feature that is left, and then one for each that is removed
pub record AreAllLines {S H : Type 0} (features : Features S H) (text : Text) : Type 0 where
  pub left : Text
  pub features_first : AddsLines (λ _. feature_line) features.features [] left
  pub hidden_then : AddsLines redirect_line features.hidden_features left text
