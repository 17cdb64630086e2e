-- Dependencies with others in the place of those that are left to the workspace.
use Rattle.std.specs.Prelude.{ℕ, List, [], ◌∷◌, drop, map, String, Vec}
use Rattle.std.specs.BTreeMap.{BTreeMap}
use Rattle.std.specs.declared.alloc.Global.{Global}
use Rattle.cargo_toml_parts.specs.Reads.{map_meaning}
use Rattle.cargo_toml_package.specs.declared.dependency.Dependency.{Dependency}
use Rattle.cargo_toml_package.specs.declared.workspace_dependencies.targets.NewTarget.{NewTarget}
use Rattle.cargo_toml_package.specs.declared.target.Target.{Target}
use Rattle.cargo_toml_package.specs.Dependencies.{DependencyMeaning}
use Rattle.cargo_toml_package.specs.Dependencies.{dependency_meaning, inherited}
use Rattle.cargo_toml_package.specs.InheritedDependencies.{Entries}
use Rattle.cargo_toml_package.specs.Targets.{TargetMeaning, target_meaning}

-- what the dependencies of a map hold, those of a list, and the targets of a map
abbrev pub entries_meaning : BTreeMap (String Global) Dependency → Entries
entries_meaning m = map_meaning dependency_meaning m

abbrev pub made_meaning : Vec Dependency Global → List DependencyMeaning
made_meaning made = map dependency_meaning made.items

abbrev pub targets_meaning : BTreeMap (String Global) Target → List (List ℕ × TargetMeaning)
targets_meaning m = map_meaning target_meaning m

-- the dependency that stands in the place of this one: the next of those made, if it is inherited
abbrev pub next_for : DependencyMeaning → List DependencyMeaning → DependencyMeaning
next_for (inherited entry) (d ∷ made) = d
next_for other made = other

-- those made that are left for the dependencies behind it
abbrev pub rest_for : DependencyMeaning → List DependencyMeaning → List DependencyMeaning
rest_for (inherited entry) (d ∷ made) = made
rest_for other made = made

-- the dependencies with those made in the place of the inherited ones, in order
abbrev pub replaced : Entries → List DependencyMeaning → Entries
replaced [] made = []
replaced (e ∷ es) made = (e.0, next_for e.1 made) ∷ replaced es (rest_for e.1 made)

-- the same for a target
abbrev pub replaced_target : TargetMeaning → NewTarget → TargetMeaning
replaced_target t new = record {
  dependencies = replaced t.dependencies (made_meaning new.dependencies);
  dev_dependencies = replaced t.dev_dependencies (made_meaning new.dev_dependencies);
  build_dependencies = replaced t.build_dependencies (made_meaning new.build_dependencies);
}

-- the target with the next one of those made
abbrev pub next_target : TargetMeaning → List NewTarget → TargetMeaning
next_target t [] = t
next_target t (new ∷ made) = replaced_target t new

-- the same for targets, one for each
abbrev pub replaced_targets : List (List ℕ × TargetMeaning) → List NewTarget
    → List (List ℕ × TargetMeaning)
replaced_targets [] made = []
replaced_targets (t ∷ ts) made = (t.0, next_target t.1 made) ∷ replaced_targets ts (drop 1 made)
