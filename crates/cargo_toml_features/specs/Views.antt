-- What the maps of a resolution hold, by the bytes of their keys, and what a manifest lists.
use Rattle.std.specs.Prelude.{Bool, false, List, [], Option, None, bytes_eq, is_some, option_map}
use Rattle.std.specs.Prelude.{map, string_bytes, String, Vec}
use Rattle.std.specs.{Option.option_map_or, Option.option_copied, Borrow.Bor, Ordering.nat_cmp}
use Rattle.std.specs.{declared.alloc.Global.Global, Cmp.Lexicographic.slice_cmp, HashMap.HashMap}
use Rattle.std.specs.{BTreeMap.BTreeMap, BTreeSet.BTreeSet}
use Rattle.cargo_toml_package.specs.{Dependencies.dependency_meaning, Details.plain_detail}
use Rattle.cargo_toml_features.specs.declared.admit.Listing.{Listing}
use Rattle.cargo_toml_features.specs.declared.features.DepAction.{DepAction}
use Rattle.cargo_toml_features.specs.declared.features.Feature.{Feature}
use Rattle.cargo_toml_features.specs.declared.features.FeatureDependency.{FeatureDependency}
use Rattle.cargo_toml_features.specs.declared.features.Features.{Features}
use Rattle.cargo_toml_features.specs.declared.features.ParseDependency.{ParseDependency}
use Rattle.cargo_toml_features.specs.{declared.features.TargetKey.TargetKey, Marks.marked}
use Rattle.cargo_toml_features.specs.{Marks.marks_of, Recorded.Entry, Recorded.RecordedKey}
use Rattle.cargo_toml_features.specs.{Recorded.Target, Recorded.target_cmp, Resolved.Answer}
use Rattle.cargo_toml_graph.specs.{Action.Text, Action.Action, Admitted.Listed, Graph.Resolution}
use Rattle.cargo_toml_graph.specs.Graph.{Table}
use Rattle.std.specs.HashMap as hash
use Rattle.std.specs.BTreeMap as tree
use Rattle.std.specs.BTreeSet as sorted

-- a set of texts, as a test
abbrev pub set_has : BTreeSet (Bor Text) → Text → Bool
set_has s x = sorted.contains_by (λ k. slice_cmp nat_cmp x k.now) s

-- what a hashed map holds under a text
abbrev pub value_at : {X S : Type 0} → HashMap (Bor Text) X S → Text → Option X
value_at m f = hash.get_by (λ k. bytes_eq f k.now) m

-- what an action says
abbrev pub action_of : DepAction → Action
action_of a = record {
  is_conditional = a.is_conditional;
  is_dep_only = a.is_dep_only;
  features = set_has a.dep_features;
}

-- the action on the dependency of key k, if there is one
abbrev pub action_at : BTreeMap (Bor Text) DepAction → Text → Option Action
action_at m k = option_map action_of (tree.get_by (λ q. slice_cmp nat_cmp k q.now) m)

-- features by their names, as a table
abbrev pub table_by : (Text → Option Feature) → Table
table_by found = record {
  has = λ f. is_some (found f);
  names = λ f x. option_map_or (λ v. set_has v.enables_features x) (found f) false;
  action = λ f k. option_map_or (λ v. action_at v.enables_deps k) (found f) None;
}

-- the same with their enablers
abbrev pub resolution_by : (Text → Option Feature) → Resolution
resolution_by found = record {
  table = table_by found;
  enabled_by = λ f e. option_map_or (λ v. set_has v.enabled_by e) (found f) false;
}

-- the features of a hashed map
abbrev pub table_in : {S : Type 0} → HashMap (Bor Text) Feature S → Table
table_in m = table_by (value_at m)

-- the same with their enablers
abbrev pub resolution_of : {S : Type 0} → HashMap (Bor Text) Feature S → Resolution
resolution_of m = resolution_by (value_at m)

-- where the dependency of a key stands
abbrev pub target_in : TargetKey → Target
target_in k = (k.kind, option_copied k.target)

-- what an answer records of a dependency
abbrev pub recorded_in : FeatureDependency → RecordedKey
recorded_in d = record {
  crate_name = d.crate_name.now;
  targets =
      λ t. option_map (λ x. dependency_meaning x.now)
      (tree.get_by (λ k. target_cmp t (target_in k)) d.targets);
}

-- the whole answer
abbrev pub answer_of : {S H : Type 0} → Features S H → Answer
answer_of a = record {
  resolution = resolution_of a.features;
  key = λ f. option_map (λ v. v.key.now) (value_at a.features f);
  marks = λ f. option_map_or marks_of (value_at a.features f) (marked false plain_detail);
  bins =
      λ f. option_map_or (λ v. map (λ t. t.now) v.required_by_bins.items)
      (value_at a.features f) [];
  dependencies = λ k. option_map recorded_in (value_at a.dependencies k);
  redirects = λ r. option_map set_has (value_at a.hidden_features r);
  removed_some = a.removed_hidden_features;
}

-- the features of a manifest, as they are listed
abbrev pub listed_in : BTreeMap (String Global) (Vec (String Global) Global) → Listed
listed_in m = map (λ e. (string_bytes e.0, map string_bytes e.1.items)) m.entries

-- what the listings of a table list
abbrev pub listed_of : List Listing → Listed
listed_of ls = map (λ l. (l.name.now, map string_bytes l.actions.now)) ls

-- an entry that a caller hands in
abbrev pub entry_of : ParseDependency → Entry
entry_of e = record {
  key = e.key.now;
  target = (e.kind, option_copied e.target);
  dependency = dependency_meaning e.dep.now;
}
