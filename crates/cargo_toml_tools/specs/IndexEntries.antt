-- What the line of an index is: what it holds of a package, the entries of its dependencies, and
-- what it holds of its features.
use Rattle.std.specs.Prelude.{List, [], ◌∷◌, Option, Some, None, false, codes, map, option_and_then}
use Rattle.std.specs.Prelude.{option_map, ◌++◌, ◌||◌, Bool, true, if◌then◌else◌}
use Rattle.std.specs.Prelude.{bytes_eq, filter, is_some}
use Rattle.std.specs.{List.flat_map, List.list_any, Option.option_map_or}
use Rattle.semver.specs.{Identifiers.parts_text, Parse.Held}
use Rattle.serde_json.specs.Data.{Data, Members, array, boolean, null, put, string, no_members}
use Rattle.serde_json.specs.Data.{object, number, unsigned}
use Rattle.serde_json.specs.View.{items_of}
use Rattle.cargo_toml.specs.Dependencies.{DependencyMeaning, is_optional, package_of}
use Rattle.cargo_toml.specs.Kind.TheVariants.{Build, Dev, Normal}
use Rattle.cargo_toml.specs.{Action.Text, Action.Item, Action.item_of, InheritableValues.value_of}
use Rattle.cargo_toml.specs.{Packages.PackageMeaning, Kind.Kind, Requirements.requirement_text}
use Rattle.cargo_toml.specs.{Action.Item.Name, Action.Item.On, Manifests.ManifestMeaning}
use Rattle.cargo_toml_lint.specs.Findings.{asked_of}
use Rattle.cargo_toml_tools.specs.Indexed.{DependencyTable, Wanted, dependency_tables, elsewhere}
use Rattle.cargo_toml_tools.specs.Indexed.{has_default, source_of, written}
pub use Rattle.cargo_toml_tools.specs.Indexed.{required_version}

-- an object with each of these members put in its place, in byte order of their names
abbrev pub with_rows : List (Text × Data) → Members → Members
with_rows [] ms = ms
with_rows (row ∷ rows) ms = with_rows rows (put row.0 row.1 ms)

abbrev pub text_or_null : Option Text → Data
text_or_null None = null
text_or_null (Some text) = string text

-- a list of texts
abbrev pub text_array : List Text → Data
text_array ts = array (items_of (map string ts))

-- a text under a key, where there is one
abbrev pub rows_if : Text → Option Text → List (Text × Data)
rows_if key None = []
rows_if key (Some text) = (key, string text) ∷ []

abbrev pub kind_text : Kind → Text
kind_text Normal = codes "normal"
kind_text Build = codes "build"
kind_text Dev = codes "dev"

-- all members of the entry of a dependency with this requirement on the version, under its key:
-- `package` where it states the name of the crate. `registry` is there where the dependency is of
-- another one
abbrev pub index_rows : Wanted → DependencyTable → Text × DependencyMeaning → List Held
    → List (Text × Data)
index_rows w t e r =
    (codes "name", string e.0)
    ∷ (codes "req", string (requirement_text r))
    ∷ (codes "features", text_array (asked_of e.1))
    ∷ (codes "optional", boolean (is_optional e.1))
    ∷ (codes "default_features", boolean (has_default t.written e.0 e.1))
    ∷ (rows_if (codes "package") (package_of e.1)
    ++ ((codes "target", text_or_null t.target) ∷ (codes "kind", string (kind_text t.kind))
    ∷ (codes "registry", text_or_null (elsewhere w.registry (source_of w.names e.1))) ∷ []))

-- the entry of a dependency with a requirement on the version. One without, which an index takes
-- only where it is for tests, is left out
abbrev pub index_entries : Wanted → DependencyTable → Text × DependencyMeaning → List Data
index_entries w t e = option_map_or
    (λ r. object (with_rows (index_rows w t e r) no_members) ∷ []) (required_version e.1) []

abbrev pub table_entries : Wanted → DependencyTable → List Data
table_entries w t = flat_map (index_entries w t) t.entries

-- ---- what stays of the lists

-- the keys of the dependencies that have an entry
abbrev pub key_if : Text × DependencyMeaning → List Text
key_if e = if is_some (required_version e.1) then e.0 ∷ [] else []

abbrev pub table_keys : DependencyTable → List Text
table_keys t = flat_map key_if t.entries

abbrev pub stays : List DependencyTable → Text → Bool
stays ts key = list_any (bytes_eq key) (flat_map table_keys ts)

-- a text stays, unless it acts on a dependency that the line hasn't
abbrev pub item_stays : (Text → Bool) → Item → Bool
item_stays has (Name x) = true
item_stays has (On key a) = has key

abbrev pub is_kept : (Text → Bool) → Text → Bool
is_kept has text = item_stays has (item_of text)

abbrev pub kept_lists : (Text → Bool) → List (Text × List Text) → List (Text × List Text)
kept_lists has fs = map (λ f. (f.0, filter (is_kept has) f.1)) fs

-- ---- how they are written

-- an action of the second version of the index: it has a `dep:` in front, or a `?` before its `/`
abbrev pub is_newer : Item → Bool
is_newer (Name x) = false
is_newer (On key a) = a.is_dep_only || a.is_conditional

-- a list with such an action
abbrev pub is_extended : List Text → Bool
is_extended list = list_any (λ text. is_newer (item_of text)) list

-- in `features2` the lists that are extended; in `features` the others, and an empty one for each
-- of these, so that what names such a feature can be read by who knows the first version alone
abbrev pub list_rows : Bool → Text × List Text → List (Text × Data)
list_rows true f = if is_extended f.1 then (f.0, text_array f.1) ∷ [] else []
list_rows false f = (f.0, text_array (if is_extended f.1 then [] else f.1)) ∷ []

abbrev pub lists_object : Bool → List (Text × List Text) → Data
lists_object extended fs = object (with_rows (flat_map (list_rows extended) fs) no_members)

-- where some list is extended, those lists are there, too, and the second version
abbrev pub feature_rows : List (Text × List Text) → List (Text × Data)
feature_rows fs =
    (codes "features", lists_object false fs)
    ∷ (if list_any (λ f. is_extended f.1) fs
    then (codes "features2", lists_object true fs) ∷ (codes "v", number (unsigned 2)) ∷ [] else [])

-- ---- the line

-- an object of what is of the package alone, of its dependencies, its features and a checksum, with
-- each member once
abbrev pub line_data : {M : Type 0} → Wanted → List DependencyTable → List (Text × List Text)
    → PackageMeaning M → Data
line_data w ts features p = object (with_rows
    ((codes "name", string p.name)
    ∷ (codes "vers", text_or_null (option_map parts_text (value_of p.version)))
    ∷ (codes "yanked", boolean false)
    ∷ (codes "links", text_or_null p.links)
    ∷ (codes "rust_version", text_or_null (option_and_then value_of p.rust_version))
    ∷ (codes "deps", array (items_of (flat_map (table_entries w) ts)))
    ∷ (feature_rows (kept_lists (stays ts) features)
    ++ rows_if (codes "cksum") w.checksum)) no_members)

-- that of a manifest, which was read from the text
abbrev pub index_data : {M : Type 0} → Wanted → Text → ManifestMeaning M → Option Data
index_data w text m =
    option_map (line_data w (dependency_tables (written text) m) m.features) m.«package»
