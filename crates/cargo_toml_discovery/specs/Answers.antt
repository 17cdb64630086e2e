-- A finite record of names that were answered.
use Rattle.std.specs.Prelude.{Bool, ◌&&◌, List, [], ◌∷◌, map, filter, Option, Some, None}
use Rattle.std.specs.Prelude.{if◌then◌else◌, codes, unwrap_or, string_bytes, String}
use Rattle.std.specs.{BTreeSet.BTreeSet, Str.bytes_eq, declared.alloc.Global.Global}
use Rattle.cargo_toml_discovery.specs.Around.{Around}
use Rattle.cargo_toml_discovery.specs.Found.{Named}
use Rattle.cargo_toml_discovery.specs.Names.{Name, has_text, in_folder, may_be_folder}
use Rattle.cargo_toml_discovery.specs.Told.{Told, names, absent, denied, open_path}
use Rattle.cargo_toml_discovery.specs.declared.listings.Listings as code
use Rattle.cargo_toml_discovery.specs.declared.listings.Wanted.{Wanted}

-- the names in folders, by the paths of these
abbrev pub Answers : Type 0
Answers = List (Name × List Name)

-- the names that were answered for a path, if any
abbrev pub answer_at : Answers → Name → Option (List Name)
answer_at [] p = None
answer_at (a ∷ ans) p = if bytes_eq p a.0 then Some a.1 else answer_at ans p

-- what is stated where an open path has this answer
abbrev pub filled_by : Told → Option (List Name) → Told
filled_by (names ts) a = names ts
filled_by absent a = absent
filled_by (denied fault) a = denied fault
filled_by open_path None = open_path
filled_by open_path (Some ts) = names ts

-- what is told, with answers where a path is open
abbrev pub filled : (Name → Told) → Answers → Name → Told
filled told ans p = filled_by (told p) (answer_at ans p)

-- the texts of a set, in order
abbrev pub texts_in : BTreeSet (String Global) → List Name
texts_in s = map (λ k. string_bytes k) s.keys

abbrev pub answers_of : code.Listings → Answers
answers_of l = map (λ e. (string_bytes e.0, texts_in e.1)) l.names.entries

-- the names at a path, none where there is no answer
abbrev pub names_in : Answers → Name → List Name
names_in ans p = unwrap_or (answer_at ans p) []

-- the names in a folder that were kept
abbrev pub names_kept : code.Listings → Name → List Name
names_kept l p = names_in (answers_of l) p

-- the folders in a folder that may hold `main.rs`
abbrev pub below : Name → List Name → List Name
below folder ns = map (in_folder folder) (filter may_be_folder ns)

abbrev pub named_in : Answers → Name → Name → Named
named_in ans folder n = record {
  name = n;
  has_main = may_be_folder n && has_text (names_in ans (in_folder folder n)) (codes "main.rs");
}

-- what a folder of products holds by these answers
abbrev pub entries_in : Answers → Name → List Named
entries_in ans folder = map (named_in ans folder) (names_in ans folder)

abbrev pub entries_if : Bool → Answers → Name → List Named
entries_if b ans folder = if b then entries_in ans folder else []

-- what stands around a package by these answers
abbrev pub around_in : Answers → Wanted → Around
around_in ans wanted = record {
  root = names_in ans [];
  src = names_in ans (codes "src");
  bins = entries_if wanted.bins ans (codes "src/bin");
  examples = entries_if wanted.examples ans (codes "examples");
  tests = entries_if wanted.tests ans (codes "tests");
  benches = entries_if wanted.benches ans (codes "benches");
}
