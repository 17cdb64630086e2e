-- The binaries that require a feature, where removed features pass theirs on.
use Rattle.std.specs.Prelude.{◌≡◌, ◌↔◌, ◌+◌, ℕ, List, [], ◌∷◌, ◌++◌, take, length, IsTrue}
use Rattle.cargo_toml_graph.specs.Ascending.{Ascend}
use Rattle.cargo_toml_graph.specs.Action.{Text}
use Rattle.cargo_toml_graph.specs.Reach.{Among, IsOnce, Reaches, GathersLabel}
use Rattle.cargo_toml_graph.specs.Graph.{Table, Edge, IsKept}
use Rattle.cargo_toml_graph.specs.Removal.{pass_all, unremoved}

-- bins are own, then texts without doubling that are not in own and that P holds of
pub record Grown (own : List Text) (P : Text → Type 0) (bins : List Text) : Type 0 where
  pub passed : List Text
  pub whole : bins ≡ own ++ passed
  pub once : IsOnce passed
  pub fresh : (x : Text) → Among passed x → ¬ Among own x
  pub cause : (x : Text) → Among passed x → P x

-- the removed features, in byte order
pub record AreInByteOrder (Removed : Text → Type 0) (order : List Text) : Type 0 where
  pub ascending : Ascend order
  pub members : (r : Text) → Among order r ↔ Removed r

module _ (t : Table) (Removed : Text → Type 0) (own : Text → List Text) where
  -- r, or a removed feature that it reaches through removed ones, names f, and x requires r
  abbrev pub IsPassed : Text → Text → Type 0
  IsPassed f x =
      (r : Text) × Removed r × Among (own r) x
      × GathersLabel (Edge t) Removed (λ b y. IsTrue (t.names b y)) r f

  -- the binaries of the kept feature f: its own, and then such as removed features pass on; the
  -- first ten own ones of each removed feature that names f are there
  pub record HasBins (f : Text) (bins : List Text) : Type 0 where
    pub lists : Grown (own f) (IsPassed f) bins
    pub direct : (r x : Text) → Removed r → IsTrue (t.names r f) → Among (take 10 (own r)) x
        → Among bins x

  -- the binaries of all kept features: in byte order each removed one passes the first ten of its
  -- list, as it then stands, on to each feature that it then names
  pub record ArePassedOn (bins : Text → List Text) : Type 0 where
    pub order : List Text
    pub in_order : AreInByteOrder Removed order
    pub lists : (f : Text) → IsKept t Removed f → bins f ≡ pass_all order (unremoved t) own f

  -- where naming alone leads from r to f through removed features, each binary that
  -- requires r requires f
  abbrev pub IsComplete : Text → List Text → Type 0
  IsComplete f bins =
      (r x : Text) → Removed r → Reaches (λ a b. IsTrue (t.names a b)) Removed r f → Among (own r) x
      → Among bins x

-- how often the features of a list are mentioned
abbrev pub mentions : (Text → List Text) → List Text → ℕ
mentions own [] = 0
mentions own (r ∷ rs) = length (own r) + mentions own rs
