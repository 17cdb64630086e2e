-- The first of a dependency's targets.
use Rattle.std.specs.Prelude.{◌≡◌, ◌<◌, IsFalse, IsSome, Some}
use Rattle.std.specs.{Borrow.Bor, BTreeMap.btree_map_len, HashMap.HashMap, HashMap.values, List.All}
use Rattle.std.specs.Ordering.{is_lt}
use Rattle.cargo_toml_package.specs.Dependencies.{DependencyMeaning}
use Rattle.cargo_toml_features.specs.declared.features.FeatureDependency.{FeatureDependency}
use Rattle.cargo_toml_features.specs.Recorded.{RecordedKey, Target, target_cmp}
use Rattle.cargo_toml_graph.specs.Action.{Text}

-- the dependency has a target
abbrev pub HasTarget : FeatureDependency → Type 0
HasTarget d = 0 < btree_map_len d.targets

-- each dependency of the map has one
abbrev pub HaveTargets : {S : Type 0} → HashMap (Bor Text) FeatureDependency S → Type 0
HaveTargets m = All HasTarget (values m)

-- what is recorded has d at t, and nothing at a target below
pub record IsFirst (r : RecordedKey) (t : Target) (d : DependencyMeaning) : Type 0 where
  pub here : r.targets t ≡ Some d
  pub least : (q : Target) → IsSome (r.targets q) → IsFalse (is_lt (target_cmp q t))
