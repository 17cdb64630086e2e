-- What is kept of features once some are removed, feature by feature.
use Rattle.std.specs.Prelude.{◌≡◌, ◌↔◌, ◌<◌, ℕ, Bool, false, List, length, IsTrue, [], map, Some}
use Rattle.std.specs.Prelude.{IfSome, Option, is_some, option_map, true}
use Rattle.std.specs.{Option.option_map_or, Borrow.Bor, BTreeSet.BTreeSet, HashMap.HashMap}
use Rattle.cargo_toml_graph.specs.{Action.Text, Action.IsJoin, Bins.AreInByteOrder}
use Rattle.cargo_toml_graph.specs.{Bins.ArePassedOn, Graph.Table, Graph.IsEnabledBy}
use Rattle.cargo_toml_graph.specs.{Graph.KeepsName, Graph.Says, Graph.IsResolved, Removal.pass_all}
use Rattle.cargo_toml_graph.specs.{Removal.unremoved, Admitted.is_below, Redirects.RedirectsTo}
use Rattle.cargo_toml_features.specs.{Places.nth_text, declared.features.Feature.Feature}
use Rattle.cargo_toml_features.specs.InOrder.{AreInOrder, AreTable, feature_at, names_of}
use Rattle.cargo_toml_features.specs.Views.{action_at, set_has, resolution_of, value_at}
use Rattle.cargo_toml_resolve.specs.{NumberedTables.IsNumbered, Numbers.IsWanted, Parts.said_of}
use Rattle.cargo_toml_resolve.specs.{Passing.bins_of, Filter.Asked, Filter.Answers}
use Rattle.cargo_toml_resolve.specs.{Filter.IsHiddenName, Removed.IsRemovedBy}

-- v holds what the kept feature f does
pub record IsKeptFeature (t : Table) (Removed : Text → Type 0) (f : Text)
    (v : Feature) : Type 0 where
  pub names : (x : Text) → IsTrue (set_has v.enables_features x) ↔ KeepsName t Removed f x
  pub enabled_by : (e : Text) → IsTrue (set_has v.enabled_by e) ↔ IsEnabledBy t Removed f e
  pub action : (k : Text) → IsJoin (Says t Removed f k) (action_at v.enables_deps k)

-- the features vs make the table t, and the graph of numbers stands for it
pub record StandFor (t : Table) (removed : Text → Bool) (vs : List Feature) (texts : List Text)
    (edges names : List (List ℕ)) (flags : List Bool) : Type 0 where
  pub table : AreTable t vs
  pub in_order : AreInOrder vs
  pub numbered : IsNumbered t (λ v. IsTrue (removed v)) texts edges names flags
  pub count : length edges ≡ length vs
  pub vertices : (i : ℕ) → i < length vs → nth_text texts i ≡ nth_text (names_of vs) i

-- the binaries that require the feature of this name themselves
abbrev pub own_bins : List Feature → Text → List Text
own_bins vs f = option_map_or (λ v. map (λ b. b.now) v.required_by_bins.items) (feature_at vs f) []

-- the kept features in their places have the binaries that the removed ones pass on in byte order
pub record ArePassedAt (t : Table) (removed : Text → Bool) (own : Text → List Text)
    (texts : List Text) (flags : List Bool) (vs : List Feature) : Type 0 where
  pub order : List Text
  pub in_order : AreInByteOrder (λ v. IsTrue (removed v)) order
  pub lists : (i : ℕ) → i < length vs → IsWanted flags false i
      → bins_of vs i ≡ pass_all order (unremoved t) own (nth_text texts i)

-- what is kept of the features vs, and what stands for those that are removed
pub record AreKept {S : Type 0} (t : Table) (removed : Text → Bool) (vs : List Feature)
    (features : HashMap (Bor Text) Feature S)
    (hidden : HashMap (Bor Text) (BTreeSet (Bor Text)) S) : Type 0 where
  pub resolved : IsResolved t (λ f. IsTrue (removed f)) (resolution_of features)
  pub own : (f : Text) → IfSome (value_at features f)
      (λ w. option_map said_of (feature_at vs f) ≡ Some (said_of w))
  pub bins : ArePassedOn t (λ r. IsTrue (removed r)) (own_bins vs)
      (λ f. option_map_or (λ v. map (λ b. b.now) v.required_by_bins.items) (value_at features f) [])
  pub redirected : (r : Text) → is_some (value_at hidden r) ≡ removed r
  pub redirects : (r : Text) → IfSome (value_at hidden r)
      (λ names. (x : Text) → IsTrue (set_has names x)
      ↔ RedirectsTo t (λ s. IsTrue (removed s)) (λ a b. IsTrue (is_below a b)) r x)

-- the same, where those are removed that the filter refuses: it keeps each other one whose name
-- begins with `_`
pub record AreKeptBy {F S : Type 0} (g : Asked F) (filter : Option (Bor F)) (t : Table)
    (vs : List Feature) (features : HashMap (Bor Text) Feature S)
    (hidden : HashMap (Bor Text) (BTreeSet (Bor Text)) S) : Type 0 where
  pub removed : (r : Text) → IsTrue (is_some (value_at hidden r)) ↔ IsRemovedBy g filter t r
  pub kept : AreKept t (λ r. is_some (value_at hidden r)) vs features hidden
  pub answered : (f : Text) → IsTrue (t.has f) → ¬ IsRemovedBy g filter t f → IsHiddenName f
      → Answers g filter f true
