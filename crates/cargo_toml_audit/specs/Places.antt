-- Paths of folders: a path is its bytes, and its names stand between slashes.
use Rattle.std.specs.Prelude.{◌++◌, ◌&&◌, ◌||◌, ◌==◌, ◌-◌, Bool, true, false, List, [], ◌∷◌, codes}
use Rattle.std.specs.Prelude.{bytes_eq, filter, fold, get_or, if◌then◌else◌, length, nat_eq, not}
use Rattle.std.specs.Prelude.{map, take}
use Rattle.std.specs.List.{join_by, list_any, slice_split, starts_with}
use Rattle.std.specs.Path.{path_join}
use Rattle.cargo_toml.specs.Action.{Text}

-- a path begins where all paths do: at the root
abbrev pub is_rooted : Text → Bool
is_rooted path = starts_with nat_eq path (codes "/")

-- where a path begins: where all paths do, or in a folder
abbrev pub begins_at : Text → Text → Text
begins_at folder path = if is_rooted path then codes "/" else folder

-- a name that leads nowhere, and the one that leads to the folder around
abbrev pub is_nothing : Text → Bool
is_nothing name = length name == 0 || bytes_eq name (codes ".")

abbrev pub is_up : Text → Bool
is_up name = bytes_eq name (codes "..")

-- the last of these names can be taken back
abbrev pub ends_in_name : List Text → Bool
ends_in_name names = not (is_up (get_or names (length names - 1) (codes "..")))

-- `..` behind these names of a path takes back the last one, or is at the root, and leads nowhere
abbrev pub can_go_back : Text → List Text → Bool
can_go_back path names = is_rooted path || ends_in_name names

-- names of a path, and one further: `..` takes back the last one, unless that is a `..` itself, or
-- each is to stay. At the root it takes back none
abbrev pub one_further : Text → Bool → List Text → Text → List Text
one_further path keeps_up names name =
    if is_nothing name then names
    else (if (is_up name && not keeps_up) && can_go_back path names
    then take (length names - 1) names else names ++ name ∷ [])

-- what stands between the slashes of a path
abbrev pub pieces : Text → List Text
pieces path = slice_split (λ b. nat_eq b 47) path

-- the path that begins as another and has these names; where that is nothing, it is `.`
abbrev pub or_dot : Text → Text
or_dot text = if length text == 0 then codes "." else text

abbrev pub with_names : Text → List Text → Text
with_names path names = or_dot (begins_at [] path ++ join_by (λ name. name) (codes "/") names)

-- the path with no `.` in it, and with `..` at its front alone, and not at the root, unless each is
-- to stay as it is written
abbrev pub normalized : Bool → Text → Text
normalized keeps_up path = with_names path (fold (one_further path keeps_up) [] (pieces path))

-- the place to which a path leads that is written in a folder
abbrev pub place_of : Text → Text → Text
place_of folder path = normalized false (path_join folder path)

abbrev pub manifest_path : Text → Text
manifest_path folder = path_join folder (codes "Cargo.toml")

-- a place is another, or lies in it
abbrev pub lies_in : Text → Text → Bool
lies_in place outer = bytes_eq place outer || starts_with nat_eq place (path_join outer [])

-- the paths of the entries of a list in a folder, as Cargo compares them: each `..` stays
abbrev pub outer_paths : Text → List Text → List Text
outer_paths root entries = map (λ e. normalized true (path_join root e)) entries

-- a path is one of these, or lies in one
abbrev pub lies_in_some : Text → List Text → Bool
lies_in_some path outers = list_any (lies_in path) outers

-- a place is excluded: its manifest lies in what is excluded, and in no entry of `members` as that
-- is written
abbrev pub excluded_by : List Text → List Text → Text → Bool
excluded_by excluded members place =
    lies_in_some (manifest_path place) excluded && not (lies_in_some (manifest_path place) members)

-- a workspace in a folder excludes a place
abbrev pub excludes : Text → List Text → List Text → Text → Bool
excludes root excluded members = excluded_by (outer_paths root excluded) (outer_paths root members)

-- those of these places that it doesn't exclude
abbrev pub included : Text → List Text → List Text → List Text → List Text
included root excluded members places = filter (λ p. not (excludes root excluded members p)) places

-- a text stands in a list
abbrev pub is_in : List Text → Text → Bool
is_in texts text = list_any (bytes_eq text) texts
