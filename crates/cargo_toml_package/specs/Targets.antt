-- What the dependencies of a target hold, and which tables are such.
use Rattle.std.specs.Prelude.{ℕ, List, Option, Some}
use Rattle.toml.specs.Data.{Members}
use Rattle.cargo_toml_package.specs.declared.target.Target.{Target}
use Rattle.cargo_toml_package.specs.Dependencies.{DependencyMeaning}
use Rattle.cargo_toml_package.specs.Dependencies.{dependency_meaning, dependency_of}
use Rattle.cargo_toml_parts.specs.Reads.{◌>>=◌, map_at, map_meaning}

-- the dependencies of some targets alone
pub record TargetMeaning : Type 0 where
  pub dependencies : List (List ℕ × DependencyMeaning)
  pub dev_dependencies : List (List ℕ × DependencyMeaning)
  pub build_dependencies : List (List ℕ × DependencyMeaning)

-- what a target holds
abbrev pub target_meaning : Target → TargetMeaning
target_meaning t = record {
  dependencies = map_meaning dependency_meaning t.dependencies;
  dev_dependencies = map_meaning dependency_meaning t.dev_dependencies;
  build_dependencies = map_meaning dependency_meaning t.build_dependencies;
}

-- the target of a table
abbrev pub target_of : Members → Option TargetMeaning
target_of ms = do
  dependencies ← map_at "dependencies" dependency_of ms
  dev_dependencies ← map_at "dev-dependencies" dependency_of ms
  build_dependencies ← map_at "build-dependencies" dependency_of ms
  Some (record {
    dependencies = dependencies;
    dev_dependencies = dev_dependencies;
    build_dependencies = build_dependencies;
  })
