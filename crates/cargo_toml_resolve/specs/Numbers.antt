-- A graph of numbered vertices, and a walk over it.
use Rattle.std.specs.Prelude.{◌≡◌, ◌≢◌, ◌↔◌, ◌⊎◌, ◌+◌, ◌<◌, ◌≤◌, ℕ, Bool, true, false, List}
use Rattle.std.specs.Prelude.{[], length, take, if◌then◌else◌}
use Rattle.std.specs.List.{slice_index_or, sum_by}
use Rattle.cargo_toml_graph.specs.Reach.{Among, GathersLabel, Reaches}

-- the row of a, empty past the end
abbrev pub row_items : List (List ℕ) → ℕ → List ℕ
row_items rows a = slice_index_or rows a []

abbrev pub Leads : List (List ℕ) → ℕ → ℕ → Type 0
Leads rows a b = Among (row_items rows a) b

-- the flag of x stands there, and is `wanted`
abbrev pub IsWanted : List Bool → Bool → ℕ → Type 0
IsWanted flags wanted x = slice_index_or flags x false ≡ wanted

-- the marked nodes are those found
abbrev pub AreMarked : List ℕ → List Bool → Type 0
AreMarked found met = (x : ℕ) → IsWanted met true x ↔ Among found x

abbrev pub unmet : List Bool → ℕ
unmet met = sum_by (λ is_met. if is_met then 0 else 1) met

-- the named nodes are found too, each that was not there put at the end, and marked
pub record FindsNamed (Named : ℕ → Type 0) (found found' : List ℕ)
    (met met' : List Bool) : Type 0 where
  pub marks : AreMarked found' met'
  pub grows : (x : ℕ) → Among found x → Among found' x
  pub reaches : (x : ℕ) → Named x → Among found' x
  pub only : (x : ℕ) → Among found' x → Among found x ⊎ Named x
  pub front : (k : ℕ) → k ≤ length found → take k found' ≡ take k found
  pub longer : length found ≤ length found'
  pub count : length found' + unmet met' ≡ length found + unmet met
  pub len : length met' ≡ length met

module _ (edges : List (List ℕ)) (removed : List Bool) where
  -- the removed vertices that a reaches through removed ones
  abbrev pub IsPassed : ℕ → ℕ → Type 0
  IsPassed a b = IsWanted removed true b × Reaches (Leads edges) (IsWanted removed true) a b

  -- a reaches a removed vertex through removed ones
  abbrev pub PassesAny : ℕ → Type 0
  PassesAny a = (b : ℕ) × IsPassed a b

  -- a or a removed vertex that it reaches through removed ones has the label x, and x isn't removed
  abbrev pub KeepsLabel : List (List ℕ) → ℕ → ℕ → Type 0
  KeepsLabel labels a x =
      GathersLabel (Leads edges) (IsWanted removed true) (Leads labels) a x
      × IsWanted removed false x

  -- a removed vertex below n
  abbrev pub IsUnder : ℕ → ℕ → Type 0
  IsUnder n v = IsWanted removed true v × (v < n)

  -- r or a removed vertex below r that it reaches through such has the label x, and
  -- x is none of these
  abbrev pub IsRedirect : List (List ℕ) → ℕ → ℕ → Type 0
  IsRedirect labels r x = GathersLabel (Leads edges) (IsUnder r) (Leads labels) r x × ¬ IsUnder r x

-- a or one of the passed vertices has the label x
abbrev pub IsFrom : (ℕ → Type 0) → List (List ℕ) → ℕ → ℕ → Type 0
IsFrom Passed labels a x = (b : ℕ) × ((b ≡ a) ⊎ Passed b) × Leads labels b x

-- and the flag of x is false
abbrev pub HasLabel : (ℕ → Type 0) → List (List ℕ) → List Bool → ℕ → ℕ → Type 0
HasLabel Passed labels flags a x =
    IsFrom Passed labels a x × IsWanted flags false x

-- the row of r is what P says, and the others are as they were
pub record Replaces (r : ℕ) (P : ℕ → Type 0) (old new : List (List ℕ)) : Type 0 where
  pub len : length new ≡ length old
  pub here : (x : ℕ) → Leads new r x ↔ P x
  pub others : (a : ℕ) → a ≢ r → row_items new a ≡ row_items old a

-- the same, and whether it had to change is told
pub record Moves (r : ℕ) (P : ℕ → Type 0) (old new : List (List ℕ)) (is_moved : Bool) : Type 0 where
  pub row : Replaces r P old new
  pub stays : is_moved ≡ false → new ≡ old

-- edges lead to vertices, and each vertex and each label has a flag
pub record AreWithin (edges labels : List (List ℕ)) (flags : List Bool) : Type 0 where
  pub same : length labels ≡ length edges
  pub count : length edges ≤ length flags
  pub edges_inside : (a b : ℕ) → Leads edges a b → b < length edges
  pub labels_inside : (a x : ℕ) → Leads labels a x → x < length flags

-- what stands for each removed vertex
pub record FindsRedirects (edges labels : List (List ℕ)) (flags moved : List Bool)
    (rows : List (List ℕ)) : Type 0 where
  -- each vertex has a row, and each node is marked or not
  pub len : length rows ≡ length labels
  pub count : length moved ≡ length flags
  -- of a removed one it has its labels once the removed ones below it are taken out
  pub redirects : (r x : ℕ) → r < length labels → IsWanted flags true r
      → Leads rows r x ↔ IsRedirect edges flags labels r x
  -- where it isn't marked as moved, these are its labels
  pub own : (r : ℕ) → IsWanted moved false r → row_items rows r ≡ row_items labels r
  -- what it has are labels
  pub inside : (r x : ℕ) → Leads rows r x → x < length flags
