-- What is asked around a package, and what is seen there.
use Rattle.std.specs.Prelude.{Bool, true, false, List, [], ◌∷◌, codes, if◌then◌else◌}
use Rattle.cargo_toml_discovery.specs.declared.listings.Wanted.{Wanted}
use Rattle.cargo_toml_discovery.specs.Found.{Named}
use Rattle.cargo_toml_discovery.specs.Names.{Name, has_text, in_folder, is_source}
use Rattle.cargo_toml_discovery.specs.Seen.{Seen, seen, seen_as, pair}
use Rattle.cargo_toml_discovery.specs.Seen.{and_then, names_at, root_names}
use Rattle.cargo_toml_discovery.specs.Told.{Told}

-- a name, and whether `main.rs` is among the names in its folder
abbrev pub named_by : Name → List Name → Named
named_by n ts = record { name = n; has_main = has_text ts (codes "main.rs") }

-- a name in a folder, with what is seen in the folder of that name; a source is not asked for
abbrev pub named_at : (Name → Told) → Name → Name → Seen Named
named_at told folder n =
    if is_source n then seen (record { name = n; has_main = false })
    else seen_as (named_by n) (names_at (told (in_folder folder n)))

-- each of these names in a folder, with what is seen of it
abbrev pub each_named : (Name → Told) → Name → List Name → Seen (List Named)
each_named told folder [] = seen []
each_named told folder (n ∷ ns) =
    seen_as (λ e. e.0 ∷ e.1) (pair (named_at told folder n) (each_named told folder ns))

-- what a folder of products holds, if it is wanted
abbrev pub entries_at : (Name → Told) → Bool → Name → Seen (List Named)
entries_at told false folder = seen []
entries_at told true folder = and_then (names_at (told folder)) (each_named told folder)

-- what stands around a package
pub record Around : Type 0 where
  pub root : List Name
  pub src : List Name
  pub bins : List Named
  pub examples : List Named
  pub tests : List Named
  pub benches : List Named

-- what stands around a package, of its six folders
abbrev pub make_around :
    (List Name × List Name) × ((List Named × List Named) × (List Named × List Named)) → Around
make_around a = record {
  root = a.0.0;
  src = a.0.1;
  bins = a.1.0.0;
  examples = a.1.0.1;
  tests = a.1.1.0;
  benches = a.1.1.1;
}

-- what is seen around a package whose lists of these kinds are wanted
abbrev pub around : (Name → Told) → Wanted → Seen Around
around told wanted =
    seen_as make_around (pair
    (pair (root_names (told [])) (names_at (told (codes "src"))))
    (pair
    (pair (entries_at told wanted.bins (codes "src/bin"))
    (entries_at told wanted.examples (codes "examples")))
    (pair (entries_at told wanted.tests (codes "tests"))
    (entries_at told wanted.benches (codes "benches")))))
