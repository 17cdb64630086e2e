-- What numbered vertices lead to, and how that is found.
use Rattle.std.specs.Prelude.{◌≡◌, ◌≢◌, ◌↔◌, ◌⊎◌, ◌<◌, ◌+◌, ℕ, Bool, true, false, List, [], ◌∷◌}
use Rattle.std.specs.Prelude.{Vec, length, slice_get}
use Rattle.std.specs.{Option.option_map_or, List.slice_index_or}
use Rattle.cargo_toml.specs.Reach.{Among, Gathers}
use Rattle.cargo_toml_lint.specs.declared.reach.Reach.{Reach}

-- the flag of a stands
abbrev pub IsFlagged : List Bool → ℕ → Type 0
IsFlagged flags a = slice_index_or flags a false ≡ true

-- the list of the vertex a, empty past the end
abbrev pub row_at : {X Z : Type 0} → List (Vec X Z) → ℕ → List X
row_at rows a = option_map_or (λ v. v.items) (slice_get rows a) []

-- an edge leads from a to b
abbrev pub Leads : {Z : Type 0} → List (Vec ℕ Z) → ℕ → ℕ → Type 0
Leads rows a b = Among (row_at rows a) b

-- b is a, or edges lead there
abbrev pub Path : {Z : Type 0} → List (Vec ℕ Z) → ℕ → ℕ → Type 0
Path rows a b = Gathers (Leads rows) (λ _. Unit {0}) a b

-- a leads to another that leads back
abbrev pub IsInRing : {Z : Type 0} → List (Vec ℕ Z) → ℕ → Type 0
IsInRing rows a = (b : ℕ) × (b ≢ a) × Path rows a b × Path rows b a

-- an edge leads from a
abbrev pub HasEdges : Reach → ℕ → Type 0
HasEdges r a = 0 < length (row_at r.next.items a)

-- what a leads to is found
abbrev pub Stands : Reach → ℕ → Type 0
Stands r a = 0 < length (row_at r.rows.items a)

-- edges lead to vertices, and each row that stands has all that its vertex leads to
pub record IsWhole (r : Reach) : Type 0 where
  pub len : length r.rows.items ≡ length r.next.items
  pub inside : (a b : ℕ) → Leads r.next.items a b → b < length r.next.items
  pub wide : (a : ℕ) → Stands r a → length (row_at r.rows.items a) ≡ length r.next.items
  pub right : (a b : ℕ) → Stands r a
      → IsFlagged (row_at r.rows.items a) b ↔ Path r.next.items a b

-- what each vertex with edges leads to is found: one without leads to itself alone
pub record IsFinished (r : Reach) : Type 0 where
  pub whole : IsWhole r
  pub settled : (a : ℕ) → HasEdges r a → Stands r a

-- the state of a search: what is flagged has its edges to what is flagged, or waits
pub record Searches (r : Reach) (start : ℕ) (row : List Bool) (waiting : List ℕ) : Type 0 where
  pub len : length row ≡ length r.next.items
  pub begun : IsFlagged row start ⊎ Among waiting start
  pub sound : (y : ℕ) → IsFlagged row y → Path r.next.items start y
  pub met : (y : ℕ) → Among waiting y → Path r.next.items start y
  pub done : (y z : ℕ) → IsFlagged row y → Leads r.next.items y z
      → IsFlagged row z ⊎ Among waiting z

-- how many edges are still to be taken
abbrev pub edges_left : {Z : Type 0} → List (Vec ℕ Z) → List Bool → ℕ
edges_left [] flags = 0
edges_left (v ∷ rows) [] = 0
edges_left (v ∷ rows) (true ∷ flags) = edges_left rows flags
edges_left (v ∷ rows) (false ∷ flags) = length v.items + edges_left rows flags
