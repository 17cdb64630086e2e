-- What a resolution with features taken out keeps, beside one that keeps every name.
use Rattle.std.specs.Prelude.{◌↔◌, IsTrue, IsFalse}
use Rattle.cargo_toml_graph.specs.Action.{Text, Action}
use Rattle.cargo_toml_graph.specs.Graph.{Resolution, EnablesAtLast}
use Rattle.cargo_toml_graph.specs.Recursive.{Enables, EnablesDependency}

-- no removed name is left: there is no feature of that name, and no feature that is left names it
-- or is enabled by it
pub record NoneIsLeft (Removed : Text → Type 0) (m : Resolution) : Type 0 where
  pub features : (r : Text) → Removed r → IsFalse (m.table.has r)
  pub names : (f r : Text) → IsTrue (m.table.has f) → Removed r → IsFalse (m.table.names f r)
  pub enabled_by : (f r : Text) → IsTrue (m.table.has f) → Removed r → IsFalse (m.enabled_by f r)

-- between features that m has, what enables what transitively is what it is in full
abbrev pub KeepsEnabling : Resolution → Resolution → Type 0
KeepsEnabling full m =
    (a b : Text) → IsTrue (m.table.has a) → IsTrue (m.table.has b)
    → EnablesAtLast m a b ↔ EnablesAtLast full a b

-- what a feature that m has enables recursively in full, it enables in m: each feature that m has,
-- and each dependency, with each feature of it that is asked for
pub record LosesNothing (full m : Resolution) : Type 0 where
  pub features : (f g : Text) → IsTrue (m.table.has f) → IsTrue (m.table.has g)
      → Enables full.table f g → Enables m.table f g
  pub dependencies : (f k g : Text) (a : Action) → IsTrue (m.table.has f)
      → EnablesDependency full.table f k g a
      → (h : Text) × (b : Action) × EnablesDependency m.table f k h b
      × ((x : Text) → IsTrue (a.features x) → IsTrue (b.features x))
