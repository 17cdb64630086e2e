-- When a graph of numbers stands for a table of features.
use Rattle.std.specs.Prelude.{◌≡◌, ◌↔◌, ◌⊎◌, ◌<◌, ◌≤◌, ℕ, Bool, true, List, length, IsTrue}
use Rattle.cargo_toml_graph.specs.{Action.Text, Admitted.is_below, Graph.Table, Graph.Edge}
use Rattle.cargo_toml_features.specs.Places.{nth_text}
use Rattle.cargo_toml_resolve.specs.Numbers.{Leads, IsWanted}

-- x is the text of a number below n of which P holds
abbrev pub HasNumber : List Text → ℕ → (ℕ → Type 0) → Text → Type 0
HasNumber texts n P x = (j : ℕ) × (j < n) × (nth_text texts j ≡ x) × P j

-- i is removed, or has an edge to a removed one: what it names is asked for
abbrev pub IsNaming : List (List ℕ) → List Bool → ℕ → Type 0
IsNaming edges flags i =
    IsWanted flags true i ⊎ ((b : ℕ) × Leads edges i b × IsWanted flags true b)

-- the vertices of t have the numbers below the length of `edges`, and other texts
-- those from there on
pub record IsNumbered (t : Table) (Removed : Text → Type 0) (texts : List Text)
    (edges names : List (List ℕ)) (flags : List Bool) : Type 0 where
  -- the text of a vertex has one number
  pub one : (i j : ℕ) → i < length edges → j < length texts
      → nth_text texts i ≡ nth_text texts j → i ≡ j
  -- those of vertices stand first, in byte order
  pub count : length edges ≤ length texts
  pub vertex : (v : Text) → IsTrue (t.has v)
      ↔ ((i : ℕ) × (i < length edges) × (nth_text texts i ≡ v))
  pub in_order : (i j : ℕ) → i < j → j < length edges
      → IsTrue (is_below (nth_text texts i) (nth_text texts j))
  pub leads : (i j : ℕ) → i < length edges
      → Leads edges i j ↔ ((j < length edges) × Edge t (nth_text texts i) (nth_text texts j))
  -- what such a vertex names has a number too, be it a vertex or not
  pub labels : (i : ℕ) (x : Text) → i < length edges → IsNaming edges flags i
      → IsTrue (t.names (nth_text texts i) x) ↔ HasNumber texts (length texts) (Leads names i) x
  pub labels_inside : (i j : ℕ) → Leads names i j → j < length texts
  -- the flags of the removed stand, and only vertices are removed
  pub flag_count : length flags ≡ length texts
  pub flagged : (i : ℕ) → i < length texts → IsWanted flags true i ↔ Removed (nth_text texts i)
  pub removed : (v : Text) → Removed v → IsTrue (t.has v)
