-- What discovery makes of what a manifest states.
use Rattle.std.specs.Prelude.{Bool, true, false, List, [], ◌∷◌, ◌&&◌, map, Option}
use Rattle.std.specs.Prelude.{Some, None, option_map, if◌then◌else◌, codes, unwrap_or}
use Rattle.std.specs.Option.{option_copied}
use denote.Ref.{Bor}
use Rattle.cargo_toml_parts.specs.Settings.{File, flag, path, file_meaning}
use Rattle.cargo_toml_parts.specs.declared.settings.Edition.{Edition}
use Rattle.cargo_toml_parts.specs.declared.settings.OptionalFile.{OptionalFile}
use Rattle.cargo_toml_parts.specs.declared.product.Product.{Product}
use Rattle.cargo_toml_parts.specs.Products.{ProductMeaning, product_meaning, no_product}
use Rattle.cargo_toml_discovery.specs.declared.discovery.Discovered as discovered_type
use Rattle.cargo_toml_discovery.specs.declared.discovery.Stated as stated_type
use Rattle.cargo_toml_discovery.specs.declared.listings.Wanted.{Wanted}
use Rattle.cargo_toml_discovery.specs.Around.{Around}
use Rattle.cargo_toml_discovery.specs.Found.{Named, Offered, found, is_path_of, still_open}
use Rattle.cargo_toml_discovery.specs.Names.{Name, has_text, underscored}
use Rattle.cargo_toml_discovery.specs.Sorting.{in_order}

-- a library without a path has this one, where the file is there
abbrev pub at_library : ProductMeaning → ProductMeaning
at_library p = record p { path = Some (unwrap_or p.path (codes "src/lib.rs")) }

-- the library, where `src/lib.rs` is there or not, and a library is made or not
abbrev pub found_library : Bool → Bool → Option ProductMeaning → Option ProductMeaning
found_library false made lib = lib
found_library true true None = Some (at_library no_product)
found_library true false None = None
found_library true made (Some p) = Some (at_library p)

-- the crate types, and `lib` where none is stated
abbrev pub or_plain_library : List Name → List Name
or_plain_library [] = codes "lib" ∷ []
or_plain_library types = types

-- the library with what it does not state: the name and the edition of the package, and the crate
-- type `lib`; it requires no feature
abbrev pub filled_library : Name → Edition → ProductMeaning → ProductMeaning
filled_library name edition p = record p {
  name = Some (unwrap_or p.name (underscored name));
  edition = Some (unwrap_or p.edition edition);
  crate_type = or_plain_library p.crate_type;
  required_features = [];
}

-- the library, if there is one, with what it does not state
abbrev pub library : Name → Edition → Bool → Bool → Option ProductMeaning → Option ProductMeaning
library name edition is_there made lib =
    option_map (filled_library name edition) (found_library is_there made lib)

-- what `src/main.rs` offers to a package of this name
abbrev pub main_of : Name → Offered
main_of name = record { file = codes "main.rs"; name = name; path = codes "src/main.rs" }

-- what `src/main.rs` offers, unless a product has that path
abbrev pub main_offer : Name → Bool → List ProductMeaning → Option Offered
main_offer name false ps = None
main_offer name true ps = still_open (is_path_of ps) (Some (main_of name))

-- a list of products: as it is found in its folder where that is wanted, and else only put in order
abbrev pub listed_products : Edition → Bool → Name → List ProductMeaning → List Named
    → Option Offered → List ProductMeaning
listed_products edition false folder ps es extra = in_order ps
listed_products edition true folder ps es extra = found edition folder ps es extra

-- nothing is stated, or just that there is a build script
abbrev pub may_build : Option File → Bool
may_build None = true
may_build (Some (flag b)) = b
may_build (Some (path p)) = false

-- the build script, where these names stand beside the manifest
abbrev pub build_in : List Name → Option File → Option File
build_in root build =
    if may_build build && has_text root (codes "build.rs") then Some (path (codes "build.rs"))
    else build

-- the first of the names that is there
abbrev pub first_in : List Name → List Name → File → File
first_in root [] otherwise = otherwise
first_in root (n ∷ ns) otherwise = if has_text root n then path n else first_in root ns otherwise

-- the names that a readme may have, in the order in which they are looked for
abbrev pub readme_names : List Name
readme_names = codes "README.md" ∷ codes "README.txt" ∷ codes "README" ∷ []

-- the readme, where these names stand beside the manifest
abbrev pub readme_in : List Name → File → File
readme_in root (flag true) = first_in root readme_names (flag true)
readme_in root (flag false) = flag false
readme_in root (path p) = path p

-- what discovery changes of a manifest
pub record DiscoveredMeaning : Type 0 where
  pub lib : Option ProductMeaning
  pub bin : List ProductMeaning
  pub example : List ProductMeaning
  pub test : List ProductMeaning
  pub bench : List ProductMeaning
  pub build : Option File
  pub readme : File

-- what a manifest states of its package, and of what discovery changes
pub record StatedMeaning : Type 0 where
  pub name : Name
  pub edition : Edition
  pub autolib : Bool
  pub wanted : Wanted
  pub stated : DiscoveredMeaning

-- what is lent of a product, of products and of a file
abbrev pub product_lent : Option (Bor Product) → Option ProductMeaning
product_lent p = option_map product_meaning (option_copied p)

abbrev pub meanings : List Product → List ProductMeaning
meanings ps = map product_meaning ps

abbrev pub file_lent : Option (Bor OptionalFile) → Option File
file_lent f = option_map file_meaning (option_copied f)

abbrev pub stated_meaning : stated_type.Stated → StatedMeaning
stated_meaning s = record {
  name = s.name.now;
  edition = s.edition;
  autolib = s.autolib;
  wanted = s.wanted;
  stated = record {
    lib = product_lent s.lib;
    bin = meanings s.bin.now;
    example = meanings s.example.now;
    test = meanings s.test.now;
    bench = meanings s.bench.now;
    build = file_lent s.build;
    readme = file_meaning s.readme.now;
  };
}

abbrev pub discovered_meaning : discovered_type.Discovered → DiscoveredMeaning
discovered_meaning d = record {
  lib = option_map product_meaning d.lib;
  bin = meanings d.bin.items;
  example = meanings d.example.items;
  test = meanings d.test.items;
  bench = meanings d.bench.items;
  build = option_map file_meaning d.build;
  readme = file_meaning d.readme;
}

-- the library, where this stands around the package
abbrev pub library_around : StatedMeaning → Around → Option ProductMeaning
library_around s a =
    library s.name s.edition (has_text a.src (codes "lib.rs")) s.autolib s.stated.lib

-- what `src/main.rs` offers, where this stands around the package
abbrev pub main_around : StatedMeaning → Around → Option Offered
main_around s a = main_offer s.name (has_text a.src (codes "main.rs")) s.stated.bin

-- what discovery makes of it, where this stands around the package
abbrev pub discovered : StatedMeaning → Around → DiscoveredMeaning
discovered s a = record {
  lib = library_around s a;
  bin = listed_products s.edition s.wanted.bins (codes "src/bin") s.stated.bin a.bins
      (main_around s a);
  example = listed_products s.edition s.wanted.examples (codes "examples") s.stated.example
      a.examples None;
  test = listed_products s.edition s.wanted.tests (codes "tests") s.stated.test a.tests None;
  bench = listed_products s.edition s.wanted.benches (codes "benches") s.stated.bench a.benches
      None;
  build = build_in a.root s.stated.build;
  readme = readme_in a.root s.stated.readme;
}

-- what a manifest states with what was discovered in it
abbrev pub restated : StatedMeaning → DiscoveredMeaning → StatedMeaning
restated s d = record s { stated = d }
