-- From what a manifest lists to the table of features, and the whole answer.
use Rattle.std.specs.Prelude.{◌≡◌, ◌↔◌, Bool, false, if◌then◌else◌, ◌&&◌, ◌||◌, List, IsSome}
use Rattle.std.specs.Prelude.{option_map, IsTrue, Option, Some, None, bytes_eq, IfSome}
use Rattle.cargo_toml_graph.specs.{Action.Text, Action.Action, Admitted.Listed}
use Rattle.cargo_toml_graph.specs.Admitted.{is_explicit, is_below, names, joined_action}
use Rattle.cargo_toml_graph.specs.{Bins.ArePassedOn, Bins.HasBins, Graph.Table, Graph.Resolution}
use Rattle.cargo_toml_graph.specs.{Graph.IsResolved, Redirects.RedirectsTo, Removal.is_removed}
use Rattle.cargo_toml_features.specs.Marks.{NamedDetails, FeatureMarks, marks_in}
use Rattle.cargo_toml_features.specs.Recorded.{Entry, RecordedKey, Target, is_implied, entries_at}
use Rattle.cargo_toml_features.specs.Recorded.{recorded_of, first_target, without_redundant}

-- one plain action
abbrev pub plain_action : Action
plain_action = record { is_conditional = false; is_dep_only = false; features = λ x. false }

module _ (listed : Listed) (entries : List Entry) where
  -- what the explicit and the implied features say, each redundant dependency feature included
  abbrev pub joined_table : Table
  joined_table = record {
    has = λ f. is_explicit listed f || is_implied listed entries f;
    names = λ f x. names listed f x;
    action =
        λ f k. if is_explicit listed f then joined_action listed f k
        else if is_implied listed entries f && bytes_eq k f then Some plain_action else None;
  }

  -- the table that the removal starts from
  abbrev pub table_of : Table
  table_of = record joined_table {
    action =
        λ f k. option_map (without_redundant (first_target (entries_at listed entries k)))
        (joined_table.action f k);
  }

-- what a resolution answers: under each name its feature, the key that it has and its marks, under
-- each key its dependency, under each removed name its redirect
pub record Answer : Type 0 where
  pub resolution : Resolution
  pub key : Text → Option Text
  pub marks : Text → FeatureMarks
  pub bins : Text → List Text
  pub dependencies : Text → Option RecordedKey
  pub redirects : Text → Option (Text → Bool)
  pub removed_some : Bool

-- both or neither are recorded, with one crate's name and the same dependency for each target
abbrev pub SameRecorded : Option RecordedKey → Option RecordedKey → Type 0
SameRecorded None None = Unit {0}
SameRecorded (Some a) (Some b) =
    (a.crate_name ≡ b.crate_name) × ((t : Target) → a.targets t ≡ b.targets t)
SameRecorded _ _ = ⊥

-- the listed features and the entries are resolved, with the features taken out of which Removed
-- holds: which features are left, under their own keys and with their marks, and the recorded
-- dependencies
pub record IsKeptAnswer (listed : Listed) (entries : List Entry) (details : NamedDetails)
    (Removed : Text → Type 0) (a : Answer) : Type 0 where
  pub resolved : IsResolved (table_of listed entries) Removed a.resolution
  pub keyed : (f : Text) → IfSome (a.key f) (λ k. k ≡ f)
  pub marks : (f : Text) → IsTrue (a.resolution.table.has f) → a.marks f ≡ marks_in listed details f
  pub dependencies : (k : Text) → SameRecorded (a.dependencies k)
      (recorded_of (entries_at listed entries k))
  pub some : IsTrue a.removed_some ↔ ((r : Text) × Removed r)

-- the kept answer, and beside it the binaries of each feature that is left, by paths and as they
-- are passed on in byte order, and what stands for each one that is taken out. `own` says which
-- binaries mention a feature themselves
pub record IsAnswerWithout (listed : Listed) (entries : List Entry) (details : NamedDetails)
    (own : Text → List Text) (Removed : Text → Type 0) (a : Answer) : Type 0 where
  pub kept : IsKeptAnswer listed entries details Removed a
  pub bins : (f : Text) → IsTrue (a.resolution.table.has f)
      → HasBins (table_of listed entries) Removed own f (a.bins f)
  pub passed_on : ArePassedOn (table_of listed entries) Removed own a.bins
  pub redirected : (r : Text) → IsSome (a.redirects r) ↔ Removed r
  pub redirects : (r : Text) → IfSome (a.redirects r) (λ names. (x : Text) → IsTrue (names x)
      ↔ RedirectsTo (table_of listed entries) Removed (λ s b. IsTrue (is_below s b)) r x)

-- the answer with the features taken out that the filter doesn't keep
abbrev pub IsAnswer : Listed → List Entry → NamedDetails → (Text → List Text) → (Text → Bool)
    → Answer → Type 0
IsAnswer listed entries details own keep a =
    IsAnswerWithout listed entries details own
    (λ r. IsTrue (is_removed (table_of listed entries) keep r)) a
