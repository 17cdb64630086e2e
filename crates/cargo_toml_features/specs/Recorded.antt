-- The dependencies that an answer has.
use Rattle.std.specs.Prelude.{ℕ, Bool, false, not, if◌then◌else◌, ◌&&◌, ◌||◌, List}
use Rattle.std.specs.Prelude.{[], ◌∷◌, is_some, option_map, Option, Some, None}
use Rattle.std.specs.Prelude.{unwrap_or, codes, bytes_eq, find, fold, filter}
use Rattle.std.specs.{Option.option_map_or, Option.option_cmp, List.list_any}
use Rattle.std.specs.{Cmp.Lexicographic.slice_cmp, declared.cmp.Ordering.Ordering}
use Rattle.std.specs.Ordering.{nat_cmp, is_lt, is_eq, ordering_then}
use Rattle.cargo_toml_package.specs.Dependencies.{DependencyMeaning, detailed}
use Rattle.cargo_toml_package.specs.Dependencies.{is_optional, package_of}
use Rattle.cargo_toml_features.specs.declared.features.Kind.{Kind}
use Rattle.cargo_toml_features.specs.declared.features.Kind.TheVariants.{Normal, Build, Dev}
use Rattle.cargo_toml_graph.specs.Action.{Text, Action}
use Rattle.cargo_toml_graph.specs.Admitted.{Listed, is_explicit, joined_action}

-- where a dependency stands: its kind, and the target that its table is for, if any
abbrev pub Target : Type 0
Target = Kind × Option Text

-- the place of a kind in their order
abbrev pub rank : Kind → ℕ
rank Normal = 0
rank Build = 1
rank Dev = 2

-- ordered by kind, then no target before a named one
abbrev pub target_cmp : Target → Target → Ordering
target_cmp a b =
    ordering_then (nat_cmp (rank a.0) (rank b.0)) (option_cmp (slice_cmp nat_cmp) a.1 b.1)

-- one entry of a dependency table
pub record Entry : Type 0 where
  pub key : Text
  pub target : Target
  pub dependency : DependencyMeaning

-- what is recorded of a key: the name of its crate, and its first dependency for each target
pub record RecordedKey : Type 0 where
  pub crate_name : Text
  pub targets : Target → Option DependencyMeaning

module _ (listed : Listed) where
  -- k is an explicit feature, or one acts on k
  abbrev pub is_mentioned : Text → Bool
  is_mentioned k =
      is_explicit listed k || list_any (λ e. is_some (joined_action listed e.0 k)) listed

  -- some action on k is dep-only
  abbrev pub is_reserved : Text → Bool
  is_reserved k =
      list_any (λ e. option_map_or (λ a. a.is_dep_only) (joined_action listed e.0 k) false) listed

  -- an entry counts if its key is mentioned, or it or an earlier entry of its key is optional
  abbrev pub counting : List Entry → List Entry → List Entry
  counting earlier [] = []
  counting earlier (e ∷ es) =
      let optional =
      list_any (λ b. bytes_eq b.key e.key && is_optional b.dependency) (e ∷ earlier) in
      if is_mentioned e.key || optional then e ∷ counting (e ∷ earlier) es
      else (counting (e ∷ earlier) es)

  -- the counting entries of the key k, in their order
  abbrev pub entries_at : List Entry → Text → List Entry
  entries_at entries k = filter (λ e. bytes_eq e.key k) (counting [] entries)

  -- the key of an optional entry that isn't reserved and that no explicit feature has
  abbrev pub is_implied : List Entry → Text → Bool
  is_implied entries k =
      list_any (λ e. bytes_eq e.key k && is_optional e.dependency) entries && not (is_reserved k)
      && not (is_explicit listed k)

-- the first entry gives the crate's name, and the first for each target stays
abbrev pub recorded_of : List Entry → Option RecordedKey
recorded_of [] = None
recorded_of (e ∷ es) = Some (record {
  crate_name = unwrap_or (package_of e.dependency) e.key;
  targets =
      λ t. option_map (λ x. x.dependency) (find (λ x. is_eq (target_cmp t x.target)) (e ∷ es));
})

-- the dependency of the first target; of equal ones the first
abbrev pub first_target : List Entry → Option DependencyMeaning
first_target [] = None
first_target (e ∷ es) =
    Some (fold (λ a b. if is_lt (target_cmp b.target a.target) then b else a) e es).dependency

-- x is a feature that the dependency has anyway, as its detail says
abbrev pub is_redundant : Option DependencyMeaning → Text → Bool
is_redundant (Some (detailed d)) x =
    (d.default_features && bytes_eq x (codes "default")) || list_any (bytes_eq x) d.features
is_redundant _ x = false

-- the action without redundant features
abbrev pub without_redundant : Option DependencyMeaning → Action → Action
without_redundant d a = record a { features = λ x. a.features x && not (is_redundant d x) }
