-- Features by their parts, and what stands in a place of a list of them.
use Rattle.std.specs.Prelude.{◌≡◌, ◌⊎◌, ℕ, Bool, false, List, Option, None, IsTrue, map, option_map}
use Rattle.std.specs.{Prelude.slice_get, Prelude.Vec, declared.alloc.Global.Global, Borrow.Bor}
use Rattle.std.specs.{BTreeMap.BTreeMap, BTreeSet.BTreeSet, Option.option_map_or}
use Rattle.cargo_toml_graph.specs.{Action.Text, Action.Action, Graph.IsPlain}
use Rattle.cargo_toml_features.specs.declared.features.DepAction.{DepAction}
use Rattle.cargo_toml_features.specs.{declared.features.Feature.Feature, Marks.FeatureMarks}
use Rattle.cargo_toml_features.specs.{Marks.marks_of, Views.action_at, Views.set_has}

-- what a feature says of itself
abbrev pub Said : Type 0
Said = Bor Text × FeatureMarks

abbrev pub said_of : Feature → Said
said_of v = (v.key, marks_of v)

-- what it names, and what it does
abbrev pub Deeds : Type 0
Deeds = BTreeSet (Bor Text) × BTreeMap (Bor Text) DepAction

abbrev pub deeds_of : Feature → Deeds
deeds_of v = (v.enables_features, v.enables_deps)

-- what it has beside what it says and its enablers, its binaries, or its deeds
abbrev pub but_enablers : Feature → Deeds × Vec (Bor Text) Global
but_enablers v = (deeds_of v, v.required_by_bins)

abbrev pub but_bins : Feature → Deeds × BTreeSet (Bor Text)
but_bins v = (deeds_of v, v.enabled_by)

abbrev pub but_deeds : Feature → Vec (Bor Text) Global × BTreeSet (Bor Text)
but_deeds v = (v.required_by_bins, v.enabled_by)

abbrev pub with_said : {X : Type 0} → (Feature → X) → Feature → Said × X
with_said part v = (said_of v, part v)

-- place by place, features say the same of themselves, and are alike in a part
abbrev pub AreAlikeIn : {X : Type 0} → (Feature → X) → List Feature → List Feature → Type 0
AreAlikeIn part old new = map (with_said part) new ≡ map (with_said part) old

-- what the feature in a place names and does, None past the end
abbrev pub place_deeds : List Feature → ℕ → Option Deeds
place_deeds vs i = option_map deeds_of (slice_get vs i)

-- it names x
abbrev pub place_names : List Feature → ℕ → Text → Bool
place_names vs i x = option_map_or (λ d. set_has d.0 x) (place_deeds vs i) false

-- what it does to k
abbrev pub place_action : List Feature → ℕ → Text → Option Action
place_action vs i k = option_map_or (λ d. action_at d.1 k) (place_deeds vs i) None

-- it names x, or acts on it plainly
abbrev pub LeadsAt : List Feature → ℕ → Text → Type 0
LeadsAt vs i x = IsTrue (place_names vs i x) ⊎ IsPlain (place_action vs i x)

-- e is among its enablers
abbrev pub place_enabler : List Feature → ℕ → Text → Bool
place_enabler vs i e = option_map_or (λ v. set_has v.enabled_by e) (slice_get vs i) false
