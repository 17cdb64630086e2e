-- What is found of a manifest.
use Rattle.std.specs.Prelude.{◌≡◌, ◌≢◌, ◌⊎◌, ℕ, ◌-◌, ◌==◌, Bool, true, ◌&&◌, ◌||◌, not}
use Rattle.std.specs.Prelude.{if◌then◌else◌, nat_eq, nat_lt, length, List, [], ◌∷◌, ◌++◌, map}
use Rattle.std.specs.Prelude.{IsTrue, IsFalse, bytes_eq, codes, Option, Some, None, unwrap_or}
use Rattle.std.specs.List.{flat_map, starts_with}
use Rattle.cargo_toml.specs.Action.{Text, Item, item_of}
use Rattle.cargo_toml.specs.Admitted.{Listed, admitted, is_explicit}
use Rattle.cargo_toml.specs.Dependencies.DependencyMeaning.{simple, inherited, detailed}
use Rattle.cargo_toml.specs.{Dependencies.DependencyMeaning, InheritedDependencies.Entries}
use Rattle.cargo_toml.specs.{Manifests.ManifestMeaning, Graph.Table, Parsed.parsed_entries}
use Rattle.cargo_toml.specs.{Dependencies.is_optional, Products.ProductMeaning, Parsed.parsed_table}
use Rattle.cargo_toml.specs.{Marks.NamedDetails, Recursive.Enables, Action.Item.Name, Reach.Among}
use Rattle.cargo_toml.specs.{Action.Item.On, Marks.marks_in, Graph.Edge, Recorded.is_implied}
use Rattle.cargo_toml_lint.specs.Known.{Names, all_names, tables_of}
use Rattle.cargo_toml_lint.specs.Taken.{is_bad_text, is_never_required, may_name}
use Rattle.cargo_toml_lint.specs.declared.finding.Code.TheVariants as code
use Rattle.cargo_toml_lint.specs.declared.finding.Level.TheVariants.{Error, Hint, Warning}
use Rattle.cargo_toml_lint.specs.{declared.finding.Finding.Finding, declared.finding.Level.Level}
use Rattle.cargo_toml_lint.specs.{declared.finding.Code.Code, Turning.turning}

-- a code, with the feature and the text that it is about; the text is empty where it is of none
abbrev pub About : Type 0
About = Code × Text × Text

-- the code, if that is so
abbrev pub when : Bool → Code → Option Code
when b c = if b then Some c else None

-- the code of the feature f and its text t, if there is one
abbrev pub told : Text → Text → Option Code → List About
told f t None = []
told f t (Some c) = (c, f, t) ∷ []

-- ---- what is wrong with what is written

-- what is wrong with the name x in the list of f
abbrev pub name_fault : Names → Text → Text → Option Code
name_fault n f x =
    if bytes_eq x f then Some code.NamesItself
    else if n.listed x then None
    else if n.optional x then when (n.reserved x) code.Reserved
    else if n.dependency x then Some code.NotOptional
    else Some code.Unknown

-- with an action on k, which has to be optional where the mark says so
abbrev pub action_fault : Names → Text → Bool → Option Code
action_fault n k marked =
    if not (n.dependency k) then Some code.Unknown
    else when (marked && not (n.optional k)) code.NotOptional

-- with an item in the list of f
abbrev pub item_fault : Names → Text → Item → Option Code
item_fault n f (Name x) = name_fault n f x
item_fault n f (On k a) = action_fault n k (a.is_dep_only || a.is_conditional)

-- with a text in the list of f
abbrev pub text_fault : Names → Text → Text → Option Code
text_fault n f t = if is_bad_text t then Some code.BadText else item_fault n f (item_of t)

-- a name that no feature has, be it listed or the key of an optional dependency that no text names
-- by `dep:`; or an action on no dependency
abbrev pub is_missing : Names → Item → Bool
is_missing n (Name x) = not (n.listed x || (n.optional x && not (n.reserved x)))
is_missing n (On k a) = not (n.dependency k)

-- with a text that a target requires
abbrev pub required_fault : Names → Text → Option Code
required_fault n t =
    if is_never_required t then Some code.BadRequired
    else when (is_bad_text t || is_missing n (item_of t)) code.Missing

-- the name of an optional dependency on which no text acts: of a listed feature, so that Cargo
-- would never turn the dependency on
abbrev pub has_same_name : Names → Text → Bool
has_same_name n f = n.optional f && not (n.acted f)

-- more texts than count, or a name that the limit left out
abbrev pub is_over : ℕ → Listed → Text → List Text → Bool
is_over limit listed f ts =
    nat_lt limit (length ts) || not (is_explicit (admitted limit listed) f)

-- ---- what is found in what is written

-- what is found in the list of f
abbrev pub list_findings : Names → Text → List Text → List About
list_findings n f ts = flat_map (λ t. told f t (text_fault n f t)) ts

-- of other texts of f, by what is wrong with each
abbrev pub texts_findings : (Text → Option Code) → Text → List Text → List About
texts_findings fault f ts = flat_map (λ t. told f t (fault t)) ts

-- of the listed feature f
abbrev pub feature_findings : Names → Bool → Text → List Text → List About
feature_findings n over f ts =
    told f [] (when (not (may_name true f)) code.BadName)
    ++ (told f [] (when (has_same_name n f) code.SameName)
    ++ (told f [] (when over code.OverLimit) ++ list_findings n f ts))

-- the features that are asked for of a dependency
abbrev pub asked_of : DependencyMeaning → List Text
asked_of (simple r) = []
asked_of (inherited i) = i.features
asked_of (detailed d) = d.features

-- of an entry of a table, which may be of dev-dependencies, or beyond the limit
abbrev pub entry_findings : Bool → Bool → Text → DependencyMeaning → List About
entry_findings dev over k d =
    told k [] (when (dev && is_optional d) code.OptionalDev)
    ++ (told k [] (when over code.OverLimit)
    ++ texts_findings (λ t. when (not (may_name true t)) code.BadRequest) k (asked_of d))

-- of a table, of which so many entries count
abbrev pub table_findings : Bool → ℕ → Entries → List About
table_findings dev n [] = []
table_findings dev n (e ∷ es) =
    entry_findings dev (n == 0) e.0 e.1 ++ table_findings dev (n - 1) es

-- of all tables of dependencies
abbrev pub tables_findings : {M : Type 0} → ℕ → ManifestMeaning M → List About
tables_findings limit m = flat_map (λ t. table_findings t.1 limit t.0) (tables_of m)

-- of a target that is built: a binary, an example, a test or a benchmark
abbrev pub product_findings : Names → ProductMeaning → List About
product_findings n p =
    texts_findings (required_fault n) (unwrap_or p.name []) p.required_features

-- of all such targets
abbrev pub products_findings : {M : Type 0} → Names → ManifestMeaning M → List About
products_findings n m =
    flat_map (product_findings n) m.bin
    ++ (flat_map (product_findings n) m.example
    ++ (flat_map (product_findings n) m.test ++ flat_map (product_findings n) m.bench))

-- ---- what is found by a table of what features turn on

-- a hidden feature: by its name, users aren't meant to ask for it
abbrev pub is_hidden : Text → Bool
is_hidden f = starts_with nat_eq f (codes "_")

-- what the manifest marks as private: of a feature that isn't listed, an added `default` or an
-- implied one, nothing is said
abbrev pub is_private : Listed → NamedDetails → Text → Bool
is_private listed details f = not (marks_in listed details f).public

-- a hidden feature that none turns on which isn't hidden
pub record IsUnreachable (t : Table) (f : Text) : Type 0 where
  pub known : IsTrue (t.has f)
  pub hidden : IsTrue (is_hidden f)
  pub left_alone : (k : Text) → IsTrue (t.has k) → IsFalse (is_hidden k) → ¬ Enables t k f

-- a feature that turns on another one, which turns it on
pub record IsCyclic (t : Table) (f : Text) : Type 0 where
  pub other : Text
  pub known : IsTrue (t.has f)
  pub apart : other ≢ f
  pub there : Enables t f other
  pub back : Enables t other f

-- `default` turns f on in one step, and no other feature does
pub record IsOnlyDefault (t : Table) (f : Text) : Type 0 where
  pub default_does : Edge t (codes "default") f
  pub no_other : (e : Text) → Edge t e f → e ≡ codes "default"

-- what holds of f among the features that count, by which of them are implied and which are private
abbrev pub CountsWith : (Text → Bool) → (Text → Bool) → Table → Code → Text → Type 0
CountsWith implied internal t code.Implied f = IsTrue (implied f)
CountsWith implied internal t code.PrivateDefault f =
    IsTrue (is_hidden f || internal f) × IsOnlyDefault t f
CountsWith implied internal t code.Cycle f = IsCyclic t f
CountsWith implied internal t code.Unreachable f = IsUnreachable t f
CountsWith implied internal t _ f = ⊥

-- the findings of all that is written, by the names that there are, and the lists beyond the limit
abbrev pub findings_by : {M : Type 0} → Names → (Text → List Text → Bool) → ℕ → Listed
    → ManifestMeaning M → List About
findings_by n over limit listed m =
    flat_map (λ e. feature_findings n (over e.0 e.1) e.0 e.1) listed
    ++ (flat_map (λ e. told e.0 [] (Some code.FeatureTable)) m.feature_details
    ++ (tables_findings limit m ++ products_findings n m))

-- by the limit of names of the table of features, of texts of a feature, and of keys of a table of
-- dependencies. The limit decides which features there are, which are implied, and what is over it.
-- Faults of texts, and what features turn on, are of all that is written
module _ {M : Type 0} (limit : ℕ) (m : ManifestMeaning M) where
  -- the findings of all that is written
  abbrev pub written_findings : List About
  written_findings = findings_by (all_names m) (is_over limit m.features) limit m.features m

  -- what holds of f among the features that count, listed or implied, and of what they turn on
  abbrev pub Counts : Code → Text → Type 0
  Counts =
      CountsWith (is_implied (admitted limit m.features) (parsed_entries limit m))
      (is_private (admitted limit m.features) m.feature_details)
      (turning m (parsed_table limit m).has)

  -- what a finding of the code says of f, and of the text t
  abbrev pub HoldsOf : Code → Text → Text → Type 0
  HoldsOf c f t = Among written_findings (c, f, t) ⊎ ((t ≡ []) × Counts c f)

-- ---- the answer
-- the level of a code
abbrev pub code_level : Code → Level
code_level code.Implied = Hint
code_level code.PrivateDefault = Hint
code_level code.Cycle = Warning
code_level code.Missing = Warning
code_level code.OverLimit = Warning
code_level code.Unreachable = Warning
code_level _ = Error

-- what a finding is about
abbrev pub about : Finding → About
about x = (x.code, x.feature.now, x.text.now)

-- there is a finding of the code for f and its text t
abbrev pub IsFound : List Finding → Code → Text → Text → Type 0
IsFound xs c f t = Among (map about xs) (c, f, t)
