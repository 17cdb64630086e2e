-- What a feature enables transitively.
use Rattle.std.specs.Prelude.{◌≡◌, IsTrue, IsFalse, List, Some, map}
use Rattle.cargo_toml_graph.specs.Action.{Text, Action}
use Rattle.cargo_toml_graph.specs.Reach.{Among, IsOnce}
use Rattle.cargo_toml_graph.specs.Graph.{Table}

-- the features that f enables, itself and by any number of names: the least such set
pub data Enables (t : Table) (f : Text) : Text → Type 0 where
  itself : Enables t f f
  further : {g x : Text} → Enables t f g → IsTrue (t.names g x) → IsTrue (t.has x) → Enables t f x

-- g is enabled by f, and acts so on k, and not conditionally
abbrev pub EnablesDependency : Table → Text → Text → Text → Action → Type 0
EnablesDependency t f k g a = Enables t f g × (t.action g k ≡ Some a) × IsFalse a.is_conditional

-- one pair of a feature and its action on k for each feature that f enables and whose action on
-- k isn't conditional
pub record ArePairs (t : Table) (f k : Text) (pairs : List (Text × Action)) : Type 0 where
  pub sound : (g : Text) (a : Action) → Among pairs (g, a) → EnablesDependency t f k g a
  pub complete : (g : Text) (a : Action) → EnablesDependency t f k g a → Among pairs (g, a)
  pub once : IsOnce (map (λ p. p.0) pairs)
