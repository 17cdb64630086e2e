-- The folder of a workspace.
use Rattle.std.specs.Prelude.{ℕ, List, [], Bool, false, codes, Option}
use Rattle.std.specs.Prelude.{Some, None, if◌then◌else◌, unwrap_or}
use Rattle.std.specs.Str.{bytes_eq}
use Rattle.std.specs.Path.{path_file_name, path_parent}

-- the last part of a path is `Cargo.toml`
abbrev pub is_manifest_name : Option (List ℕ) → Bool
is_manifest_name None = false
is_manifest_name (Some name) = bytes_eq name (codes "Cargo.toml")

-- the folder above a `Cargo.toml`, and any other path itself
abbrev pub workspace_folder : List ℕ → List ℕ
workspace_folder path =
    if is_manifest_name (path_file_name path) then unwrap_or (path_parent path) [] else path
