-- What resolving the features of a manifest answers.
use Rattle.std.specs.Prelude.{◌≤◌, ℕ, Bool, IsSome, IsTrue, List, [], Option, count_by, map}
use Rattle.std.specs.{Prelude.is_some, Prelude.true, Prelude.unwrap_or, Borrow.Bor, List.flat_map}
use Rattle.std.specs.Option.{option_map_or}
use Rattle.cargo_toml_graph.specs.Action.{Text}
use Rattle.cargo_toml_graph.specs.Admitted.{Listed, admitted}
use Rattle.cargo_toml_graph.specs.Bins.{IsComplete}
use Rattle.cargo_toml_graph.specs.Graph.{Table}
use Rattle.cargo_toml_graph.specs.Kept.{KeepsEnabling, LosesNothing, NoneIsLeft}
use Rattle.cargo_toml_parts.specs.Products.{ProductMeaning}
use Rattle.cargo_toml_manifest.specs.Inheriting.{own_tables}
use Rattle.cargo_toml_manifest.specs.Manifests.{ManifestMeaning}
use Rattle.cargo_toml_features.specs.declared.features.Features.{Features}
use Rattle.cargo_toml_features.specs.Entries.{entries_of}
use Rattle.cargo_toml_features.specs.FirstTarget.{HaveTargets}
use Rattle.cargo_toml_features.specs.OwnBins.{own_of}
use Rattle.cargo_toml_features.specs.Marks.{NamedDetails}
use Rattle.cargo_toml_features.specs.Reached.{IsKeyed}
use Rattle.cargo_toml_features.specs.Recorded.{Entry}
use Rattle.cargo_toml_features.specs.Resolved.{Answer, IsAnswer, table_of}
use Rattle.cargo_toml_features.specs.Views.{answer_of}
use Rattle.cargo_toml_resolve.specs.Filter.{Asked}
use Rattle.cargo_toml_resolve.specs.Removed.{AgreesWithAll, IsAnswerBy}

-- the features that a binary requires, each with the binary's name, or that of the
-- package where it has none
abbrev pub requirements_by : Text → ProductMeaning → List (Text × Text)
requirements_by name b = map (λ f. (f, unwrap_or b.name name)) b.required_features

-- what the binaries require, binary by binary and mention by mention; nothing without a package
abbrev pub requirements : {M : Type 0} → ManifestMeaning M → List (Text × Text)
requirements m = option_map_or (λ p. flat_map (requirements_by p.name) m.bin) m.«package» []

-- what hiding leaves, by itself and beside each full answer: one of a filter that keeps every name
pub record IsHiding (IsFull : Answer → Type 0) (a : Answer) : Type 0 where
  -- no name of a removed feature is left
  pub no_removed_name : NoneIsLeft (λ r. IsSome (a.redirects r)) a.resolution
  -- between features that are left, what enables what transitively is the same
  pub closure : (full : Answer) → IsFull full → KeepsEnabling full.resolution a.resolution
  -- what one of them enables recursively loses no feature that is left, no dependency, and nothing
  -- that is asked of one
  pub nothing_lost : (full : Answer) → IsFull full → LosesNothing full.resolution a.resolution

-- the answer by the filter for features and entries that stand in no manifest, with which each
-- other answer for them agrees
pub record IsCustomAnswer {F : Type 0} (g : Asked F) (filter : Option (Bor F)) (listed : Listed)
    (entries : List Entry) (a : Answer) : Type 0 where
  pub answered : IsAnswerBy g filter listed entries [] (λ _. []) a
  pub agreement : AgreesWithAll g filter listed entries a

-- where so many names count, actions of a feature, and keys of a table of dependencies
module _ (limit : ℕ) where
  -- the answer for features in byte order of their names, these entries, what is said of features
  -- beside and what binaries require, where the names are kept that `keep` is true of
  abbrev pub IsAnswerFor : Listed → List Entry → NamedDetails → (Text → List Text) → (Text → Bool)
      → Answer → Type 0
  IsAnswerFor listed entries details own keep a =
      IsAnswer (admitted limit listed) entries details own keep a

  module _ {M : Type 0} (m : ManifestMeaning M) where
    -- the entries of all dependency tables, of each the first keys up to the limit, in their
    -- order; `entries_at` takes those of a key that count
    abbrev pub parsed_entries : List Entry
    parsed_entries = entries_of limit (own_tables m) m.target

    -- what each feature that counts says
    abbrev pub parsed_table : Table
    parsed_table = table_of (admitted limit m.features) parsed_entries

    -- the answer for the manifest, where the names are kept that `keep` is true of
    abbrev pub IsParsed : (Text → Bool) → Answer → Type 0
    IsParsed keep a =
        IsAnswerFor m.features parsed_entries m.feature_details (own_of (requirements m)) keep a

    -- the same by what the filter answers
    abbrev pub IsParsedBy : {F : Type 0} → Asked F → Option (Bor F) → Answer → Type 0
    IsParsedBy g filter a =
        IsAnswerBy g filter (admitted limit m.features) parsed_entries m.feature_details
        (own_of (requirements m)) a

    -- with at most ten mentions of removed features, each binary that requires one of these
    -- requires each kept feature to which naming alone leads from it through removed ones
    abbrev pub AreBinsComplete : (Text → Bool) → Answer → Type 0
    AreBinsComplete removed a =
        count_by (λ q. removed q.0) (requirements m) ≤ 10 → (f : Text)
        → IsTrue (a.resolution.table.has f) → IsComplete parsed_table
        (λ r. IsTrue (removed r)) (own_of (requirements m)) f (a.bins f)

    -- what is resolved is that answer, with each feature under its own key, and a target for each
    -- dependency; what hiding leaves, and binaries
    pub record IsResolvedFor {F S H : Type 0} (g : Asked F) (filter : Option (Bor F))
        (a : Features S H) : Type 0 where
      pub parsed : IsParsedBy g filter (answer_of a)
      pub hiding : IsHiding (IsParsed (λ _. true)) (answer_of a)
      pub complete_bins : AreBinsComplete (λ r. is_some ((answer_of a).redirects r)) (answer_of a)
      pub keyed : IsKeyed a.features
      pub targets : HaveTargets a.dependencies
