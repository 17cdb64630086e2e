-- Features as a graph of numbers.
use Rattle.std.specs.Prelude.{◌≡◌, ◌≢◌, ◌↔◌, ◌⊎◌, ◌<◌, ◌≤◌, ℕ, Bool, true, List, length, take}
use Rattle.std.specs.Prelude.{IsTrue}
use Rattle.cargo_toml_graph.specs.{Action.Text, Reach.Among}
use Rattle.cargo_toml_resolve.specs.Numbers.{IsWanted, Leads, row_items}
use Rattle.cargo_toml_resolve.specs.{Parts.LeadsAt, Parts.place_names, NumberedTables.HasNumber}
use Rattle.cargo_toml_resolve.specs.NumberedTables.{IsNaming}
use Rattle.cargo_toml_features.specs.{Places.nth_text, declared.features.Feature.Feature}
use Rattle.cargo_toml_features.specs.InOrder.{names_of}

-- the flag of the feature of this name stands
abbrev pub IsFlagged : List Feature → List Bool → Text → Type 0
IsFlagged vs flags f =
    (i : ℕ) × (i < length vs) × (nth_text (names_of vs) i ≡ f) × IsWanted flags true i

-- the feature in place i leads to another one, in place x
abbrev pub IsTarget : List Feature → List Text → ℕ → ℕ → Type 0
IsTarget vs keys i x = (x ≢ i) × LeadsAt vs i (nth_text keys x)

-- the row gains the places below n, other than `own`, of which P holds
abbrev pub Gains : ℕ → ℕ → (ℕ → Type 0) → List ℕ → List ℕ → Type 0
Gains n own P old new = (x : ℕ) → Among new x ↔ (Among old x ⊎ ((x < n) × (x ≢ own) × P x))

-- texts that aren't among the first n are put at the end
pub record Extends (n : ℕ) (old new : List Text) : Type 0 where
  pub front : take (length old) new ≡ old
  pub apart : (j : ℕ) → length old ≤ j → j < length new → ¬ Among (take n old) (nth_text new j)

-- x is a place of this name, and the one among the first n, if it stands there
pub record IsNodeOf (n : ℕ) (texts : List Text) (name : Text) (x : ℕ) : Type 0 where
  pub inside : x < length texts
  pub text : nth_text texts x ≡ name
  pub key : (i : ℕ) → i < n → nth_text texts i ≡ name → x ≡ i

-- the row has a place of each name of which P holds, and all such among the first n
pub record HasNames (n : ℕ) (texts : List Text) (P : Text → Type 0) (row : List ℕ) : Type 0 where
  pub inside : (x : ℕ) → Among row x → x < length texts
  pub only : (x : ℕ) → Among row x → P (nth_text texts x)
  pub all : (k : Text) → P k → HasNumber texts (length texts) (Among row) k
  pub keys : (x : ℕ) → x < n → P (nth_text texts x) → Among row x

-- the names of the features stand first, and no text after them is one
pub record AreTextsOf (vs : List Feature) (texts : List Text) : Type 0 where
  pub keys : take (length vs) texts ≡ names_of vs
  pub apart : (j : ℕ) → length vs ≤ j → j < length texts → ¬ Among (names_of vs) (nth_text texts j)

-- where the features lead, and what each names that is removed or has an edge to a removed one
pub record AreRead (vs : List Feature) (flags : List Bool) (texts : List Text)
    (edge_rows name_rows : List (List ℕ)) : Type 0 where
  pub edges_len : length edge_rows ≡ length vs
  pub names_len : length name_rows ≡ length vs
  pub edges : (i x : ℕ) → i < length vs
      → Leads edge_rows i x ↔ ((x < length vs) × IsTarget vs (names_of vs) i x)
  pub names : (i : ℕ) → i < length vs → IsNaming edge_rows flags i
      → HasNames (length vs) texts (λ k. IsTrue (place_names vs i k)) (row_items name_rows i)
  pub inside : (i x : ℕ) → Leads name_rows i x → x < length texts
