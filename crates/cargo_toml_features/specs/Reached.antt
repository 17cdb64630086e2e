-- What recursive enabling asks of a map of features, and what the maps that it answers hold.
use Rattle.std.specs.Prelude.{◌≡◌, ◌≢◌, ◌⊎◌, ◌↔◌, IsTrue, List, [], Some, IfSome, IsSome, Vec}
use Rattle.std.specs.{Prelude.is_some, Prelude.map, List.IsAmong, Option.option_map_or, Borrow.Bor}
use Rattle.std.specs.{declared.alloc.Global.Global, HashMap.HashMap, HashMap.values}
use Rattle.cargo_toml_features.specs.declared.features.DepAction.{DepAction}
use Rattle.cargo_toml_features.specs.{declared.features.Feature.Feature, Views.value_at}
use Rattle.cargo_toml_features.specs.Views.{action_of, table_in}
use Rattle.cargo_toml_graph.specs.{Action.Text, Action.Action, Recursive.Enables}

-- each feature stands under its own key
abbrev pub IsKeyed : {S : Type 0} → HashMap (Bor Text) Feature S → Type 0
IsKeyed m = (f : Text) → IfSome (value_at m f) (λ v. v.key.now ≡ f)

-- the feature is one of the map's, or the map has one under its key
abbrev pub IsHeldBy : {S : Type 0} → HashMap (Bor Text) Feature S → Feature → Type 0
IsHeldBy m v = IsAmong (values m) v ⊎ IsSome (value_at m v.key.now)

-- the features that are found
abbrev pub Found : Type 0 → Type 0
Found S = HashMap (Bor Text) (Bor Feature) S

-- a feature is found exactly if the feature f of m enables it
abbrev pub AreEnabled : {S : Type 0} → HashMap (Bor Text) Feature S → Text → Found S → Type 0
AreEnabled m f found = (x : Text) → IsTrue (is_some (value_at found x)) ↔ Enables (table_in m) f x

-- each that is found is the one of m
abbrev pub ComeFrom : {S : Type 0} → HashMap (Bor Text) Feature S → Found S → Type 0
ComeFrom m found = (x : Text) → IfSome (value_at found x) (λ v. value_at m x ≡ Some v.now)

-- for each key of a dependency the names of features, each with its action
abbrev pub Lists : Type 0 → Type 0
Lists S = HashMap (Bor Text) (Vec (Bor Text × Bor DepAction) Global) S

-- the pairs under a key; none where the key isn't there
abbrev pub pairs_at : {S : Type 0} → Lists S → Text → List (Text × Action)
pairs_at m k =
    map (λ p. (p.0.now, action_of p.1.now)) (option_map_or (λ v. v.items) (value_at m k) [])

-- no list is empty
abbrev pub HaveNoEmpty : {S : Type 0} → Lists S → Type 0
HaveNoEmpty m = (k : Text) → IfSome (value_at m k) (λ v. v.items ≢ [])
