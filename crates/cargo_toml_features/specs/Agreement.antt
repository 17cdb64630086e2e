-- Answers that say the same.
use Rattle.std.specs.Prelude.{◌≡◌, Bool, IsTrue, Option, Some, None}
use Rattle.cargo_toml_graph.specs.{Action.Text, Removal.SameKept}
use Rattle.cargo_toml_features.specs.Resolved.{Answer, SameRecorded}

-- both or neither are there, and they say the same of each text
abbrev pub SameTests : Option (Text → Bool) → Option (Text → Bool) → Type 0
SameTests None None = Unit {0}
SameTests (Some p) (Some q) = (x : Text) → p x ≡ q x
SameTests _ _ = ⊥

-- they say the same of all except the binaries that require features, what is public, and texts
pub record Agree (a b : Answer) : Type 0 where
  pub features : SameKept a.resolution b.resolution
  pub keys : (f k l : Text) → a.key f ≡ Some k → b.key f ≡ Some l → k ≡ l
  pub explicit : (f : Text) → IsTrue (a.resolution.table.has f)
      → (a.marks f).explicit ≡ (b.marks f).explicit
  pub dependencies : (k : Text) → SameRecorded (a.dependencies k) (b.dependencies k)
  pub redirects : (r : Text) → SameTests (a.redirects r) (b.redirects r)
  pub removed_some : a.removed_some ≡ b.removed_some
