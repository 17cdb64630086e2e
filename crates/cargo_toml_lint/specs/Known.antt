-- Which names a manifest has.
use Rattle.std.specs.Prelude.{Bool, true, false, ◌&&◌, ◌||◌, not, List, ◌∷◌, ◌++◌, bytes_eq, map}
use Rattle.std.specs.{List.flat_map, List.list_any, Prelude.[]}
use Rattle.cargo_toml.specs.Action.{Text, Item, item_of}
use Rattle.cargo_toml.specs.{InheritedDependencies.Entries, InheritedManifests.own_tables}
use Rattle.cargo_toml.specs.{Manifests.ManifestMeaning, Dependencies.is_optional, Action.Item.Name}
use Rattle.cargo_toml.specs.{Action.Item.On, Targets.TargetMeaning, Admitted.Listed}
use Rattle.cargo_toml_lint.specs.Taken.{is_bad_text}

-- keys of dependencies, some of which are marked
abbrev pub Marked : Type 0
Marked = List (Text × Bool)

-- whether the key is among them, and marked where that is asked
abbrev pub has_key : Bool → Marked → Text → Bool
has_key marked ks k = list_any (λ p. bytes_eq k p.0 && (p.1 || not marked)) ks

-- the keys of a table of dependencies; marked are those of optional ones
abbrev pub keys_in : Entries → Marked
keys_in entries = map (λ e. (e.0, is_optional e.1)) entries

-- the three tables of dependencies of a target, each with whether it is of dev-dependencies
abbrev pub target_tables : TargetMeaning → List (Entries × Bool)
target_tables t =
    (t.dependencies, false) ∷ (t.build_dependencies, false) ∷ (t.dev_dependencies, true) ∷ []

-- all tables: of each target, then of the manifest
abbrev pub tables_of : {M : Type 0} → ManifestMeaning M → List (Entries × Bool)
tables_of m = flat_map (λ t. target_tables t.1) m.target ++ target_tables (own_tables m)

-- the keys of all tables
abbrev pub dependency_keys : {M : Type 0} → ManifestMeaning M → Marked
dependency_keys m = flat_map (λ t. keys_in t.0) (tables_of m)

-- the key on which the item of a text acts; marked by `dep:`, unless the text is bad
abbrev pub acted_in : Bool → Item → Marked
acted_in bad (Name x) = []
acted_in bad (On k a) = (k, a.is_dep_only && not bad) ∷ []

-- those of a list of texts, and of all lists
abbrev pub acted_by : List Text → Marked
acted_by texts = flat_map (λ t. acted_in (is_bad_text t) (item_of t)) texts

-- the keys on which the lists of a table of features act
abbrev pub acted_keys : Listed → Marked
acted_keys listed = flat_map (λ e. acted_by e.1) listed

-- which names there are
pub record Names : Type 0 where
  -- those of the table of features
  pub listed : Text → Bool
  -- the keys of all tables of dependencies
  pub dependency : Text → Bool
  -- those under which some table has an optional dependency
  pub optional : Text → Bool
  -- the keys on which some text acts
  pub acted : Text → Bool
  -- those that some text names by `dep:`
  pub reserved : Text → Bool

-- whether the table of features has the name
abbrev pub is_name : Listed → Text → Bool
is_name listed f = list_any (λ e. bytes_eq f e.0) listed

-- the names of a manifest
abbrev pub all_names : {M : Type 0} → ManifestMeaning M → Names
all_names m = record {
  listed = is_name m.features;
  dependency = has_key false (dependency_keys m);
  optional = has_key true (dependency_keys m);
  acted = has_key false (acted_keys m.features);
  reserved = has_key true (acted_keys m.features);
}
