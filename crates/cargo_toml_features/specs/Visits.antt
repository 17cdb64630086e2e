-- What one visit of a feature adds to the lists of pairs and to the features still to visit. No
-- public clause cites it.
use Rattle.std.specs.Prelude.{◌≡◌, ◌≤◌, ◌+◌, ◌&&◌, ◌||◌, Bool, false, if◌then◌else◌, List}
use Rattle.std.specs.Prelude.{[], ◌∷◌, ◌++◌, length, Option, Some, None, bytes_eq, is_some}
use Rattle.std.specs.{Option.option_map_or, List.list_any, List.AllByRecursion, Borrow.Bor}
use Rattle.std.specs.HashMap.{HashMap}
use Rattle.cargo_toml_features.specs.declared.features.DepAction.{DepAction}
use Rattle.cargo_toml_features.specs.declared.features.Feature.{Feature}
use Rattle.cargo_toml_graph.specs.Action.{Text, Action}
use Rattle.cargo_toml_features.specs.Reached.{Found, Lists, pairs_at}
use Rattle.cargo_toml_features.specs.Views.{action_at, set_has, value_at}

-- the list under a key; empty where the key isn't there
abbrev pub items_at : {S : Type 0} → Lists S → Text → List (Bor Text × Bor DepAction)
items_at m k = option_map_or (λ v. v.items) (value_at m k) []

-- one more pair at the end of the list under k
pub record AddsPair {S : Type 0} (k : Text) (pair : Bor Text × Bor DepAction)
    (old new : Lists S) : Type 0 where
  pub here : items_at new k ≡ items_at old k ++ pair ∷ []
  pub others : (q : Text) → bytes_eq k q ≡ false → value_at new q ≡ value_at old q

-- f with its action, where it isn't conditional
abbrev pub unconditional : Text → Option Action → List (Text × Action)
unconditional f None = []
unconditional f (Some a) = if a.is_conditional then [] else ((f, a) ∷ [])

-- at the end of each list one pair for what the feature does unconditionally
abbrev pub AddsActions : {S : Type 0} → Feature → Lists S → Lists S → Type 0
AddsActions v old new =
    (k : Text) → pairs_at new k
    ≡ pairs_at old k ++ unconditional v.key.now (action_at v.enables_deps k)

-- the feature v is put among those that are found
pub record PutsFound {S : Type 0} (v : Bor Feature) (old new : Found S) : Type 0 where
  pub here : value_at new v.now.key.now ≡ Some v
  pub others : (x : Text) → bytes_eq v.now.key.now x ≡ false → value_at new x ≡ value_at old x

-- a feature of this name is still to visit
abbrev pub is_pending : List (Bor Feature) → Text → Bool
is_pending vs x = list_any (λ v. bytes_eq x v.now.key.now) vs

-- the features still to visit, where one of them was taken off to be visited next; none, where
-- there was none to take
abbrev pub still : List (Bor Feature) → Option (Bor Feature) → List (Bor Feature)
still pending None = []
still pending (Some next) = pending ++ next ∷ []

-- each feature of the list stands in the map under its key
abbrev pub AreHeld : {S : Type 0} → HashMap (Bor Text) Feature S → List (Bor Feature) → Type 0
AreHeld m vs = AllByRecursion (λ v. value_at m v.now.key.now ≡ Some v.now) vs

-- the features of m that v names are still to visit too
pub record PushesNamed {S : Type 0} (m : HashMap (Bor Text) Feature S) (v : Feature)
    (old new : List (Bor Feature)) : Type 0 where
  pub pending : (x : Text) → is_pending new x
      ≡ (is_pending old x || (set_has v.enables_features x && is_some (value_at m x)))
  pub held : AreHeld m old → AreHeld m new
  pub count : length new ≤ length old + length v.enables_features.keys
