-- The names that are gathered of a manifest: words of steps, on which no public contract rests.
use Rattle.std.specs.Prelude.{◌≡◌, ◌++◌, Bool, List, String, map, string_bytes}
use Rattle.std.specs.{BTreeMap.BTreeMap, Borrow.Bor, declared.alloc.Global.Global}
use Rattle.cargo_toml.specs.{Action.Text, Admitted.Listed, Reads.map_meaning, Views.set_has}
use Rattle.cargo_toml.specs.{Dependencies.dependency_meaning, InheritedDependencies.Entries}
use Rattle.cargo_toml_lint.specs.Known.{Marked, Names, is_name}
use Rattle.cargo_toml_lint.specs.declared.known.Known.{Known}
use Rattle.cargo_toml_package.specs.declared.dependency.Dependency.{Dependency}

-- a table of dependencies, and whether it is of dev-dependencies
abbrev pub table_of : Bor (BTreeMap (String Global) Dependency) × Bool → Entries × Bool
table_of t = (map_meaning dependency_meaning t.0.now, t.1)

-- a key, and whether it is marked
abbrev pub key_of : Bor Text × Bool → Text × Bool
key_of k = (k.0.now, k.1)

-- these keys are added at the end
abbrev pub AddsKeys : Marked → List (Bor Text × Bool) → List (Bor Text × Bool) → Type 0
AddsKeys ks old new = map key_of new ≡ map key_of old ++ ks

-- the features as they are listed
abbrev pub listed_by : Known → Listed
listed_by known = map_meaning (λ v. map string_bytes v.items) known.features.now

-- the names that the sets hold
abbrev pub held_names : Known → Names
held_names known = record {
  listed = is_name (listed_by known);
  dependency = set_has known.dependencies;
  optional = set_has known.optional;
  acted = set_has known.acted;
  reserved = set_has known.reserved;
}
