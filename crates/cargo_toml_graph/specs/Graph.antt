-- The graph of features, and what the kept ones hold once the removed ones are taken out.
use Rattle.std.specs.Prelude.{◌≡◌, ◌≢◌, ◌⊎◌, ◌↔◌, Bool, IsTrue, IsFalse, Option, Some}
use Rattle.std.specs.Option.{IsSomeAnd}
use Rattle.cargo_toml_graph.specs.Action.{Text, Action, IsJoin}
use Rattle.cargo_toml_graph.specs.Reach.{Reaches, GathersLabel}

-- what the admitted and the implied features say, with nothing removed: which there are, what each
-- names, how each acts on each dependency
pub record Table : Type 0 where
  pub has : Text → Bool
  pub names : Text → Text → Bool
  pub action : Text → Text → Option Action

-- the dependency that it acts on is enabled, and so is the feature of that name
abbrev pub IsPlain : Option Action → Type 0
IsPlain o = IsSomeAnd o (λ a. IsFalse a.is_conditional × IsFalse a.is_dep_only)

-- an edge from f to g: f names g, or acts on it plainly
pub record Edge (t : Table) (f g : Text) : Type 0 where
  pub source : IsTrue (t.has f)
  pub target : IsTrue (t.has g)
  pub apart : f ≢ g
  pub leads : IsTrue (t.names f g) ⊎ IsPlain (t.action f g)

-- what a resolution holds: a table, and which features enable each
pub record Resolution : Type 0 where
  pub table : Table
  pub enabled_by : Text → Text → Bool

-- Removed is the set of removed features, as a fact of a vertex
module _ (t : Table) (Removed : Text → Type 0) where
  -- f is a vertex, and isn't removed
  abbrev pub IsKept : Text → Type 0
  IsKept f = IsTrue (t.has f) × ¬ Removed f

  -- a path of at least one edge, whose inner vertices are removed
  abbrev pub ReachesThrough : Text → Text → Type 0
  ReachesThrough f g = Reaches (Edge t) Removed f g

  -- f or a removed feature that it reaches through removed ones names x, and x is not removed
  abbrev pub KeepsName : Text → Text → Type 0
  KeepsName f x = GathersLabel (Edge t) Removed (λ b y. IsTrue (t.names b y)) f x × ¬ Removed x

  -- e is kept, and a path through removed features leads from it to f
  abbrev pub IsEnabledBy : Text → Text → Type 0
  IsEnabledBy f e = IsKept e × ReachesThrough e f

  -- f or a removed feature that it reaches through removed ones acts so on k
  abbrev pub Says : Text → Text → Action → Type 0
  Says f k a = GathersLabel (Edge t) Removed (λ b x. t.action b k ≡ Some x) f a

  -- the resolution is the table with the removed features taken out
  pub record IsResolved (m : Resolution) : Type 0 where
    pub kept : (f : Text) → IsTrue (m.table.has f) ↔ IsKept f
    pub names : (f x : Text) → IsKept f → IsTrue (m.table.names f x) ↔ KeepsName f x
    pub enabled_by : (f e : Text) → IsKept f → IsTrue (m.enabled_by f e) ↔ IsEnabledBy f e
    pub action : (f k : Text) → IsKept f → IsJoin (Says f k) (m.table.action f k)

-- nothing is removed: the table itself, and the sources of edges
pub record IsUnremoved (t : Table) (m : Resolution) : Type 0 where
  pub has : (f : Text) → m.table.has f ≡ t.has f
  pub names : (f x : Text) → m.table.names f x ≡ t.names f x
  pub action : (f k : Text) → m.table.action f k ≡ t.action f k
  pub enabled_by : (f e : Text) → IsTrue (m.enabled_by f e) ↔ Edge t e f

-- e enables f through any number of features between
abbrev pub EnablesAtLast : Resolution → Text → Text → Type 0
EnablesAtLast m e f = Reaches (λ a b. IsTrue (m.enabled_by b a)) (λ b. IsTrue (m.table.has b)) e f
