-- Features that learn what enables them, place by place.
use Rattle.std.specs.Prelude.{◌≡◌, ◌≢◌, ◌<◌, ◌↔◌, ◌⊎◌, ℕ, Bool, IsTrue, List, false, length, true}
use Rattle.cargo_toml_graph.specs.{Action.Text, Graph.IsPlain, Reach.Reaches}
use Rattle.cargo_toml_features.specs.{declared.features.Feature.Feature, InOrder.names_of}
use Rattle.cargo_toml_features.specs.{Places.nth_text, Views.action_at, Views.set_has}
use Rattle.cargo_toml_resolve.specs.{Numbers.IsWanted, Numbers.Leads, NumberedTables.HasNumber}
use Rattle.cargo_toml_resolve.specs.Parts.{AreAlikeIn, LeadsAt, but_enablers, place_enabler}

-- what features hold beside their enablers stays
abbrev pub AreSameButEnablers : List Feature → List Feature → Type 0
AreSameButEnablers old new = AreAlikeIn but_enablers old new

-- the feature names x, or acts on it plainly
abbrev pub LeadsTo : Feature → Text → Type 0
LeadsTo v x = IsTrue (set_has v.enables_features x) ⊎ IsPlain (action_at v.enables_deps x)

-- the enablers of the new feature in each place are those of the old one, and the texts of which
-- By holds
abbrev pub LearnEach : (ℕ → Text → Type 0) → List Feature → List Feature → Type 0
LearnEach By old new =
    (y : ℕ) (e : Text) → y < length old
    → IsTrue (place_enabler new y e) ↔ (IsTrue (place_enabler old y e) ⊎ By y e)

-- the texts of which By holds are put among the enablers of each feature; nothing else changes
pub record LearnBy (By : ℕ → Text → Type 0) (old new : List Feature) : Type 0 where
  pub same : AreSameButEnablers old new
  pub learn : LearnEach By old new

-- the feature in place j, other than the one in place y, has the name e and leads to the name of
-- the one in place y
abbrev pub Leader : List Feature → ℕ → ℕ → Text → Type 0
Leader vs j y e =
    (y ≢ j) × (nth_text (names_of vs) j ≡ e) × LeadsAt vs j (nth_text (names_of vs) y)

-- so one of the first n does
abbrev pub LeaderBelow : List Feature → ℕ → ℕ → Text → Type 0
LeaderBelow vs n y e = (j : ℕ) × (j < n) × Leader vs j y e

-- the source is put among the enablers of the features in the named places; nothing else changes
abbrev pub GainEnabler : (ℕ → Type 0) → Text → List Feature → List Feature → Type 0
GainEnabler Named source old new = LearnBy (λ y e. (e ≡ source) × Named y) old new

-- e isn't removed and reaches f through removed vertices
abbrev pub EnablesThrough : List (List ℕ) → List Bool → ℕ → ℕ → Type 0
EnablesThrough edges flags f e =
    IsWanted flags false e × Reaches (Leads edges) (IsWanted flags true) e f

-- each kept feature learns which kept ones of the numbers below n enable it, themselves or through
-- removed ones
abbrev pub LearnThrough : List (List ℕ) → List Bool → List Text → ℕ → List Feature → List Feature
    → Type 0
LearnThrough edges flags texts n old new = LearnEach
    (λ y e. IsWanted flags false y × HasNumber texts n (EnablesThrough edges flags y) e)
    old new
