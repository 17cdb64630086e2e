-- Entries that are gone through beside the table that they are of.
use Rattle.std.specs.Prelude.{◌≡◌, List, Some, String, string_bytes}
use Rattle.std.specs.List.{AllByRecursion}
use Rattle.std.specs.declared.alloc.Global.{Global}
use Rattle.cargo_toml_package.specs.declared.dependency.Dependency.{Dependency}
use Rattle.cargo_toml_package.specs.Dependencies.{dependency_meaning}
use Rattle.cargo_toml_package.specs.InheritedDependencies.{Entries, entry_at}

-- each of these is the one of its key among the entries
abbrev pub AreEntriesOf : Entries → List (String Global × Dependency) → Type 0
AreEntriesOf entries some =
    AllByRecursion (λ e. entry_at (string_bytes e.0) entries ≡ Some (dependency_meaning e.1)) some
