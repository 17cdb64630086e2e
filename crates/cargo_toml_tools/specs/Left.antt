-- The first key that a manifest leaves to a workspace.
use Rattle.std.specs.Prelude.{Bool, ◌++◌, List, [], ◌∷◌, None, Option, Some, codes}
use Rattle.std.specs.Prelude.{if◌then◌else◌, option_map}
use Rattle.std.specs.Option.{option_copied, option_map_or, option_or}
use Rattle.cargo_toml.specs.InheritedDependencies.{Entries, is_left}
use Rattle.cargo_toml.specs.InheritedPackages.{field_is_left, leavable_rows}
use Rattle.cargo_toml.specs.{Action.Text, Dependencies.DependencyMeaning, Targets.TargetMeaning}
use Rattle.cargo_toml.specs.Manifests.{ManifestMeaning}
use Rattle.cargo_toml_tools.specs.declared.left.Left as code

-- a key: the target whose table it stands in, if it does in one's, the table, and the key there
abbrev pub Left : Type 0
Left = Option Text × (Text × Text)

abbrev pub left_of : code.Left → Left
left_of l = (option_copied l.target, (l.table.now, l.key.now))

-- the first that there is of some elements
abbrev pub first_of : {A B : Type 0} → (A → Option B) → List A → Option B
first_of f [] = None
first_of f (x ∷ xs) = option_or (f x) (first_of f xs)

abbrev pub left_if : Bool → Left → Option Left
left_if is_left left = if is_left then Some left else None

-- the first key of these of the package
abbrev pub left_key : Text × Bool → Option Text
left_key row = if row.1 then Some row.0 else None

abbrev pub left_in_package : List (Text × Bool) → Option Left
left_in_package rows = option_map (λ key. (None, (codes "package", key))) (first_of left_key rows)

-- a dependency of a table
abbrev pub left_entry : Option Text → Text → Text × DependencyMeaning → Option Left
left_entry target table e = left_if (is_left e.1) (target, (table, e.0))

-- the first of the three tables of a target, or of none
abbrev pub left_in : Option Text → Entries → Entries → Entries → Option Left
left_in target normal dev build =
    option_or (option_or (first_of (left_entry target (codes "dependencies")) normal)
    (first_of (left_entry target (codes "dev-dependencies")) dev))
    (first_of (left_entry target (codes "build-dependencies")) build)

abbrev pub left_target : Text × TargetMeaning → Option Left
left_target t =
    left_in (Some t.0) t.1.dependencies t.1.dev_dependencies t.1.build_dependencies

-- the first of a manifest
abbrev pub first_left : {M : Type 0} → ManifestMeaning M → Option Left
first_left m =
    option_or (option_or
    (option_or (left_in_package (option_map_or leavable_rows m.«package» []))
    (left_if (field_is_left m.lints) (None, (codes "lints", codes "workspace"))))
    (left_in None m.dependencies m.dev_dependencies m.build_dependencies))
    (first_of left_target m.target)

-- how it is named
abbrev pub left_name : Left → Text
left_name (None, (table, key)) = table ++ (codes "." ++ key)
left_name (Some target, (table, key)) =
    codes "target." ++ (target ++ (codes "." ++ (table ++ (codes "." ++ key))))

abbrev pub left_words : Left → Text
left_words left = left_name left ++ codes " is left to a workspace, and none is looked for"
