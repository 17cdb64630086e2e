-- Parts of a manifest, and the manifest in which a part stands alone.
use Rattle.std.specs.Prelude.{ℕ, List, [], ◌∷◌, Option, Some, None, codes, unwrap_or}
use Rattle.toml.specs.Data.{Data, Members, array, item, member, no_items, no_members, string, table}
use Rattle.cargo_toml.specs.{Settings.named, Writes.put_member}
use Rattle.cargo_toml_check.specs.declared.alone.{Around.Around, Step.Step}
use Rattle.cargo_toml_check.specs.declared.alone.Around.TheVariants as around
use Rattle.cargo_toml_check.specs.declared.alone.Step.TheVariants as step

-- a step from a value to a part of it: what stands at a key, or an item
pub data Part : Type 0 where
  key : List ℕ → Part
  nth : ℕ → Part

abbrev pub part_of : Step → Part
part_of (step.Key k) = key k.now
part_of (step.Item n) = nth n

-- which table stands at a key of this one
abbrev pub next : Around → List ℕ → Around
next around.Manifest k =
    unwrap_or (named ((codes "package", around.Package)
    ∷ (codes "workspace", around.Workspace) ∷ (codes "lints", around.Lints) ∷ []) k) around.Other
next around.Workspace k =
    unwrap_or (named ((codes "lints", around.Lints) ∷ []) k) around.Other
next around.Lints k = around.Tool
next around.Tool k = around.Lint
next _ k = around.Other

-- what has to stand in the table beside any part: the name of a package, and the level of a lint
abbrev pub beside : Around → Members
beside around.Package = member (codes "name") (string (codes "a")) no_members
beside around.Lint = member (codes "level") (string (codes "allow")) no_members
beside _ = no_members

-- which table stands at a path below this one
abbrev pub table_at : Around → List Part → Around
table_at a [] = a
table_at a (key k ∷ path) = table_at (next a k) path
table_at a (nth n ∷ path) = table_at around.Other path

-- an array or a table at this path with nothing in it but what has to stand there
abbrev pub emptied : List Part → Data → Option Data
emptied path (array ds) = Some (array no_items)
emptied path (table ms) = Some (table (beside (table_at around.Manifest path)))
emptied path _ = None

-- the tree with nothing but this part, at its path, and what has to stand beside it
abbrev pub alone : Around → List Part → Data → Data
alone a [] d = d
alone a (key k ∷ path) d = table (put_member k (alone (next a k) path d) (beside a))
alone a (nth n ∷ path) d = array (item (alone around.Other path d) no_items)
