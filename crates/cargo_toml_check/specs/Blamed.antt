-- Which parts of a manifest are at fault.
use Rattle.std.specs.Prelude.{List, ◌∷◌, ◌++◌, map, Bool, if◌then◌else◌, Option, false, is_some}
use Rattle.std.specs.Prelude.{ℕ, [], length, nat_lt, suc}
use Rattle.std.specs.Option.{option_map_or}
use Rattle.toml.specs.Data.{Data, Items, Members, array, item, member, no_items, no_members, table}
use Rattle.cargo_toml.specs.Manifests.{ManifestMeaning, manifest_reads}
use Rattle.cargo_toml.specs.{Floats.without_floats, Texts.any_tree}
use Rattle.cargo_toml_check.specs.Alone.{Part, alone, emptied, key, nth, part_of}
use Rattle.cargo_toml_check.specs.declared.search.Fault.{Fault}
use Rattle.cargo_toml_check.specs.declared.alone.Around.TheVariants as around

-- what the library reads of a tree
abbrev pub reads : Data → Option (ManifestMeaning Data)
reads d = without_floats (manifest_reads any_tree) d

-- what it reads of a part by itself
abbrev pub reads_alone : List Part → Data → Option (ManifestMeaning Data)
reads_alone path d = reads (alone around.Manifest path d)

-- an array or a table at this path reads, whatever is amiss with what stands in it
abbrev pub reads_emptied : List Part → Data → Bool
reads_emptied path d = option_map_or (λ e. is_some (reads_alone path e)) (emptied path d) false

-- these paths, or this one where there is none
abbrev pub or_own : List Part → List (List Part) → List (List Part)
or_own path [] = path ∷ []
or_own path (inner ∷ more) = inner ∷ more

-- a path of so many parts that nothing is told of what is in its part
unfoldable pub is_deep : List Part → Bool
is_deep path = nat_lt 32 (length path)

-- the paths in the parts of a part count where it isn't deep, and reads emptied
abbrev pub inner_paths : List Part → Data → List (List Part) → List (List Part)
inner_paths path d inner =
    if is_deep path then [] else (if reads_emptied path d then inner else [])

-- the paths at fault in the part at a path, of which these are in its parts: none where it reads by
-- itself, and its own where no other counts
abbrev pub unless_read : List Part → Data → List (List Part) → List (List Part)
unless_read path d inner =
    if is_some (reads_alone path d) then [] else or_own path (inner_paths path d inner)

abbrev mutual
  pub blamed_parts : List Part → Data → List (List Part)
  blamed_parts path (array ds) = blamed_items path 0 ds
  blamed_parts path (table ms) = blamed_members path ms
  blamed_parts path _ = []

  pub blamed_items : List Part → ℕ → Items → List (List Part)
  blamed_items path n no_items = []
  blamed_items path n (item d ds) =
      unless_read (path ++ nth n ∷ []) d (blamed_parts (path ++ nth n ∷ []) d)
      ++ blamed_items path (suc n) ds

  pub blamed_members : List Part → Members → List (List Part)
  blamed_members path no_members = []
  blamed_members path (member k d ms) =
      unless_read (path ++ key k ∷ []) d (blamed_parts (path ++ key k ∷ []) d)
      ++ blamed_members path ms

abbrev pub blamed : List Part → Data → List (List Part)
blamed path d = unless_read path d (blamed_parts path d)

abbrev pub path_of : Fault → List Part
path_of f = map part_of f.path.items
