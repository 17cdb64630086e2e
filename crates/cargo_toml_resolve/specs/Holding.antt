-- What a feature holds once the removed ones that it passes are taken out.
use Rattle.std.specs.Prelude.{Bool, true, false, ◌≡◌, ◌≢◌, ◌↔◌, ◌⊎◌, ◌<◌, ◌≤◌, ℕ, List, length}
use Rattle.std.specs.{Prelude.Some, Prelude.IsTrue, Prelude.slice_get, Borrow.Bor}
use Rattle.std.specs.BTreeSet.{BTreeSet}
use Rattle.cargo_toml_graph.specs.{Action.Text, Action.Action, Action.IsJoin, Reach.Among}
use Rattle.cargo_toml_features.specs.{declared.features.Feature.Feature, Views.set_has}
use Rattle.cargo_toml_features.specs.Places.{nth_text}
use Rattle.cargo_toml_resolve.specs.Numbers.{IsPassed, IsWanted, KeepsLabel, PassesAny, row_items}
use Rattle.cargo_toml_resolve.specs.Enabling.{EnablesThrough, LearnEach, LearnThrough}
use Rattle.cargo_toml_resolve.specs.{NumberedTables.HasNumber, Parts.AreAlikeIn, Parts.but_deeds}
use Rattle.cargo_toml_resolve.specs.Parts.{place_action, place_deeds, place_names}
use Rattle.cargo_toml_resolve.specs.{declared.graph.Walked.Walked, Texts.texts_now}

-- a feature in a place that P holds of does a to k
abbrev pub DoesAt : List Feature → (ℕ → Type 0) → Text → Action → Type 0
DoesAt vs P k a = (b : ℕ) × P b × (place_action vs b k ≡ Some a)

-- x is the text of one of these numbers
abbrev pub IsTextOf : List Text → List ℕ → Text → Type 0
IsTextOf texts numbers x = HasNumber texts (length texts) (Among numbers) x

-- the set has exactly the texts of these numbers
abbrev pub HasTextsOf : List Text → List ℕ → BTreeSet (Bor Text) → Type 0
HasTextsOf texts numbers s = (x : Text) → IsTrue (set_has s x) ↔ IsTextOf texts numbers x

-- the new feature in place i does to each key the join of what the old ones do in the places of
-- which P holds
abbrev pub HasActions : List Feature → (ℕ → Type 0) → List Feature → ℕ → Type 0
HasActions old P new i = (k : Text) → IsJoin (DoesAt old P k) (place_action new i k)

-- what features say of themselves stays, with their binaries
abbrev pub SayTheSame : List Feature → List Feature → Type 0
SayTheSame old new = AreAlikeIn (λ v. v.required_by_bins) old new

module _ (edges labels : List (List ℕ)) (flags : List Bool) (texts : List Text) where
  -- what the kept feature in place i names: where it passes a removed one what it keeps, and
  -- otherwise what it named; and what it and those that it passes do
  pub record Holds (i : ℕ) (old new : List Feature) : Type 0 where
    pub names :
        (PassesAny edges flags i × ((x : Text) → IsTrue (place_names new i x)
        ↔ HasNumber texts (length texts) (KeepsLabel edges flags labels i) x))
        ⊎ ((¬ PassesAny edges flags i) × ((x : Text) → place_names new i x ≡ place_names old i x))
    pub actions : HasActions old (λ b. (b ≡ i) ⊎ IsPassed edges flags i b) new i

  -- the kept feature in place i takes over from the removed ones that it passes, and is put among
  -- what enables those that it then enables; nothing else changes
  pub record TakesOver (i : ℕ) (old new : List Feature) : Type 0 where
    pub same : SayTheSame old new
    pub here : Holds i old new
    pub others : (j : ℕ) → j ≢ i → place_deeds new j ≡ place_deeds old j
    pub learn : LearnEach
        (λ y e. (e ≡ nth_text texts i)
        × (IsWanted flags false y × EnablesThrough edges flags y i))
        old new

  -- so do the kept ones below n, one after another
  pub record AllTakeOver (n : ℕ) (old new : List Feature) : Type 0 where
    pub same : SayTheSame old new
    pub holds : (i : ℕ) → i < n → IsWanted flags false i → Holds i old new
    pub rest : (i : ℕ) → (n ≤ i) ⊎ IsWanted flags true i → place_deeds new i ≡ place_deeds old i
    pub learn : LearnThrough edges flags texts n old new

-- the feature in place i comes to have these names, and to do what it and those in the places
-- `passed` do; nothing else changes
pub record ComesToHold (i : ℕ) (passed : List ℕ) (set : BTreeSet (Bor Text))
    (old new : List Feature) : Type 0 where
  pub same : AreAlikeIn but_deeds old new
  pub names : (x : Text) → place_names new i x ≡ set_has set x
  pub actions : HasActions old (λ b. (b ≡ i) ⊎ Among passed b) new i
  pub others : (j : ℕ) → j ≢ i → place_deeds new j ≡ place_deeds old j

-- a removed feature names its redirect, where that isn't marked as moved
abbrev pub HaveOwnSets : Walked → List Feature → Type 0
HaveOwnSets w vs =
    (r : ℕ) (v : Feature) → IsWanted w.flags.items true r → IsWanted w.moved.items false r
    → slice_get vs r ≡ Some v
    → HasTextsOf (texts_now w.texts.items) (row_items w.redirects r) v.enables_features
