-- What features hold while some are taken out, one after another.
use Rattle.std.specs.Prelude.{◌≡◌, ◌&&◌, ◌||◌, ◌∷◌, not, if◌then◌else◌, Bool, false, List, []}
use Rattle.std.specs.Prelude.{Option, IsFalse, IsSome, bytes_eq, codes, nat_eq, option_map, take, ⊤}
use Rattle.std.specs.{List.starts_with, Option.IsSomeAnd, Option.option_map_or, Borrow.Bor}
use Rattle.std.specs.{BTreeMap.BTreeMap, BTreeSet.BTreeSet, HashMap.HashMap}
use Rattle.cargo_toml_package.specs.Details.{plain_detail}
use Rattle.cargo_toml_graph.specs.{Action.Action, Action.Text, Action.join_option}
use Rattle.cargo_toml_graph.specs.{Graph.Resolution, Reach.Among, Reach.IsOnce}
use Rattle.cargo_toml_graph.specs.Removal.{SameKept, pass_all, pass_bins, put_each}
use Rattle.cargo_toml_graph.specs.Removal.{without_all, without_one}
use Rattle.cargo_toml_features.specs.declared.features.{DepAction.DepAction, Feature.Feature}
use Rattle.cargo_toml_features.specs.{Marks.FeatureMarks, Marks.marked, Marks.marks_of}
use Rattle.cargo_toml_features.specs.{Slots.Relates, Views.set_has, Views.action_at}
use Rattle.cargo_toml_features.specs.{Views.resolution_of, Views.value_at}
use Rattle.cargo_toml_resolve.specs.Texts.{texts_now}

-- a feature of this name is taken out
abbrev pub is_hidden : (Text → Bool) → Text → Bool
is_hidden keep f = starts_with nat_eq f (codes "_") && not (keep f)

-- what the feature of a name says of itself
module _ {S : Type 0} (m : HashMap (Bor Text) Feature S) (f : Text) where
  abbrev pub key_at : Option Text
  key_at = option_map (λ v. v.key.now) (value_at m f)

  abbrev pub marks_at : FeatureMarks
  marks_at = option_map_or marks_of (value_at m f) (marked false plain_detail)

  -- the binaries that require it
  abbrev pub bins_at : List Text
  bins_at = option_map_or (λ v. texts_now v.required_by_bins.items) (value_at m f) []

-- what a set has: if so, it has gained what the feature that is gone had, and lost its key
abbrev pub passed_on : Bool → BTreeSet (Bor Text) → BTreeSet (Bor Text) → Text → Text → Bool
passed_on is_so own gone key x =
    if is_so then (set_has own x || set_has gone x) && not (bytes_eq x key) else set_has own x

-- how a dependency is acted on: if so, as the feature that is gone did, too
abbrev pub actions_then : Bool → BTreeMap (Bor Text) DepAction → BTreeMap (Bor Text) DepAction
    → Text → Option Action
actions_then is_so own gone k =
    if is_so then join_option (action_at own k) (action_at gone k) else action_at own k

-- what the feature `name` becomes once `gone`, whose name is `key`, is taken out
pub record Loses (gone : Feature) (key name : Text) (old new : Feature) : Type 0 where
  pub own_key : new.key ≡ old.key
  pub marks : marks_of new ≡ marks_of old
  -- a parent names what it named, and acts as it did
  pub names : (x : Text) → set_has new.enables_features x
      ≡ passed_on (set_has gone.enabled_by name) old.enables_features gone.enables_features key x
  pub actions : (k : Text) → action_at new.enables_deps k
      ≡ actions_then (set_has gone.enabled_by name) old.enables_deps gone.enables_deps k
  -- what it enabled is enabled by its parents
  pub enabled_by : (e : Text) → set_has new.enabled_by e
      ≡ passed_on (set_has old.enabled_by key) old.enabled_by gone.enabled_by key e
  -- what it named is required by its first ten binaries
  pub bins : texts_now new.required_by_bins.items
      ≡ (if set_has gone.enables_features name
      then put_each (texts_now old.required_by_bins.items)
      (take 10 (texts_now gone.required_by_bins.items))
      else texts_now old.required_by_bins.items)

-- the names are those of all features, each once
pub record AreNames {S : Type 0} (m : HashMap (Bor Text) Feature S) (names : List Text)
    : Type 0 where
  pub all : (f : Text) → IsSome (value_at m f) → Among names f
  pub once : IsOnce names

-- at k the feature, where there is one, changes so, and no other does
pub record ChangesAt {S : Type 0} (Changes : Feature → Feature → Type 0) (k : Text)
    (old new : HashMap (Bor Text) Feature S) : Type 0 where
  pub here : Relates Changes (value_at old k) (value_at new k)
  pub others : (q : Text) → IsFalse (bytes_eq k q) → value_at new q ≡ value_at old q

-- the features of these names change, each in its way, and no other does
pub record ChangesAll {S : Type 0} (Changes : Text → Feature → Feature → Type 0) (named : List Text)
    (old new : HashMap (Bor Text) Feature S) : Type 0 where
  pub here : (q : Text) → Among named q → Relates (Changes q) (value_at old q) (value_at new q)
  pub others : (q : Text) → ¬ Among named q → value_at new q ≡ value_at old q

-- the feature `key` is taken out
pub record TakesOut {S : Type 0} (key : Text)
    (old new : HashMap (Bor Text) Feature S) : Type 0 where
  pub left : SameKept (without_one key (resolution_of old)) (resolution_of new)
  pub keys : (f : Text) → IsSome (value_at new f) → key_at new f ≡ key_at old f
  pub marks : (f : Text) → IsSome (value_at new f) → marks_at new f ≡ marks_at old f
  pub bins : (f : Text) → IsSome (value_at new f)
      → bins_at new f ≡ pass_bins (resolution_of old) key (bins_at old) f

abbrev pub Redirected : Type 0 → Type 0
Redirected S = HashMap (Bor Text) (BTreeSet (Bor Text)) S

-- these names are put aside under r
abbrev pub HasNames : {S : Type 0} → Redirected S → Text → (Text → Bool) → Type 0
HasNames hidden r names =
    IsSomeAnd (value_at hidden r) (λ s. (x : Text) → set_has s x ≡ names x)

-- what r names goes to its redirect, and all others stay
pub record Redirects {S : Type 0} (r : Text) (m : Resolution) (old new : Redirected S)
    : Type 0 where
  pub here : HasNames new r (m.table.names r)
  pub others : (q : Text) → IsFalse (bytes_eq r q) → value_at new q ≡ value_at old q

-- what each names at its turn is put aside
abbrev pub HaveRedirects : {S : Type 0} → List Text → Resolution → Redirected S → Type 0
HaveRedirects [] m hidden = ⊤
HaveRedirects (r ∷ rs) m hidden =
    HasNames hidden r (m.table.names r) × HaveRedirects rs (without_one r m) hidden

-- the features of these names, each once, are taken out of a map of what m holds and own lists one
-- after another, in their order
pub record AreTakenOut {S : Type 0} (m : Resolution) (own : Text → List Text) (removed : List Text)
    (old new : HashMap (Bor Text) Feature S) (hidden hidden' : Redirected S) : Type 0 where
  pub left : SameKept (without_all removed m) (resolution_of new)
  pub stays : (f : Text) → IsSome (value_at new f) → IsSome (value_at old f)
      × (key_at new f ≡ key_at old f) × (marks_at new f ≡ marks_at old f)
  pub bins : (f : Text) → IsSome (value_at new f) → bins_at new f ≡ pass_all removed m own f
  pub redirects : HaveRedirects removed m hidden'
  pub others : (q : Text) → ¬ Among removed q → value_at hidden' q ≡ value_at hidden q
