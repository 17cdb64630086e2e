-- The entries of all dependency tables of a manifest, in the order in which they count.
use Rattle.std.specs.Prelude.{ℕ, List, ◌++◌, map, take, Option, Some, None}
use Rattle.std.specs.List.{flat_map}
use Rattle.cargo_toml_package.specs.{InheritedDependencies.Entries, Dependencies.dependency_meaning}
use Rattle.cargo_toml_package.specs.Targets.{TargetMeaning}
use Rattle.cargo_toml_parts.specs.Reads.{map_meaning}
use Rattle.cargo_toml_features.specs.{declared.entries.Tables.Tables, declared.features.Kind.Kind}
use Rattle.cargo_toml_features.specs.declared.features.Kind.TheVariants.{Normal, Build, Dev}
use Rattle.cargo_toml_features.specs.Recorded.{Entry}
use Rattle.cargo_toml_graph.specs.Action.{Text}

module _ (limit : ℕ) where
  -- the first entries of one table, by key in byte order
  abbrev pub first_entries : Kind → Option Text → Entries → List Entry
  first_entries kind target table =
      map (λ e. record { key = e.0; target = (kind, target); dependency = e.1 }) (take limit table)

  -- the normal and the build dependencies of a target, or of no target in particular
  abbrev pub built_entries : Option Text → TargetMeaning → List Entry
  built_entries target t =
      first_entries Normal target t.dependencies ++ first_entries Build target t.build_dependencies

  -- the development dependencies of a target, or of no target in particular
  abbrev pub dev_entries : Option Text → TargetMeaning → List Entry
  dev_entries target t = first_entries Dev target t.dev_dependencies

  -- those of a manifest with these tables of its own and these targets
  abbrev pub entries_of : TargetMeaning → List (Text × TargetMeaning) → List Entry
  entries_of own targets =
      built_entries None own
      ++ (flat_map (λ t. built_entries (Some t.0) t.1) targets
      ++ (dev_entries None own
      ++ flat_map (λ t. dev_entries (Some t.0) t.1) targets))

-- what the tables of no target in particular hold
abbrev pub tables_meaning : Tables → TargetMeaning
tables_meaning t = record {
  dependencies = map_meaning dependency_meaning t.dependencies.now;
  dev_dependencies = map_meaning dependency_meaning t.dev_dependencies.now;
  build_dependencies = map_meaning dependency_meaning t.build_dependencies.now;
}
