-- What the worked examples hold, and the trees that they are written to.
use Rattle.std.specs.Prelude.{[], ◌∷◌, codes, true, false, Some}
use Rattle.toml.specs.Data.{Data, string, boolean, array, table}
use Rattle.toml.specs.Data.{no_items, item, Members, no_members, member}
use Rattle.cargo_toml_package.specs.Dependencies.{DependencyMeaning, detailed, no_detail}
use Rattle.cargo_toml_parts.specs.declared.settings.Edition.TheVariants.{E2021}
use Rattle.cargo_toml_parts.specs.Products.{ProductMeaning, no_product}

-- an optional dependency of a path, with one feature
abbrev pub path_dependency : DependencyMeaning
path_dependency = detailed (record no_detail {
  path = Some (codes "../log");
  features = codes "std" ∷ [];
  optional = true;
})

abbrev pub path_dependency_tree : Data
path_dependency_tree =
    table (member (codes "features") (array (item (string (codes "std")) no_items))
    (member (codes "optional") (boolean true)
    (member (codes "path") (string (codes "../log")) no_members)))

-- a binary that is not tested
abbrev pub untested_binary : ProductMeaning
untested_binary = record no_product {
  name = Some (codes "tool");
  test = false;
  edition = Some E2021;
}

abbrev pub untested_binary_tree : Data
untested_binary_tree =
    table (member (codes "edition") (string (codes "2021"))
    (member (codes "name") (string (codes "tool"))
    (member (codes "required-features") (array no_items)
    (member (codes "test") (boolean false) no_members))))

-- the keys of a package of which only the name is said
abbrev pub only_name : Members
only_name = member (codes "name") (string (codes "tool")) no_members
