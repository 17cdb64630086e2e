-- The lines that are printed of a completed manifest.
use Rattle.std.specs.Prelude.{◌++◌, [], ◌∷◌, Option, Some, None, codes, option_map, unwrap_or}
use Rattle.std.specs.List.{flat_map}
use Rattle.cargo_toml_graph.specs.Action.{Text}
use Rattle.cargo_toml_manifest.specs.Manifests.{ManifestMeaning}
use Rattle.cargo_toml_package.specs.Packages.{PackageMeaning}
use Rattle.cargo_toml_parts.specs.declared.inheritable.Inheritable.{Inheritable}
use Rattle.cargo_toml_parts.specs.declared.inheritable.Inheritable.TheVariants.{Set, Inherited}
use Rattle.cargo_toml_program.specs.Lines.{between_commas}
use Rattle.cargo_toml_parts.specs.SettingAnswers.{shown}
use Rattle.cargo_toml_parts.specs.Settings.{File}
use Rattle.cargo_toml_parts.specs.Products.{ProductMeaning}

-- what follows in a line, or "-" where it isn't known
abbrev pub cell_text : Option Text → Text
cell_text cell = codes " | " ++ unwrap_or cell (codes "-")

-- the cells of the name and the path of a product
abbrev pub place_text : ProductMeaning → Text
place_text p = cell_text p.name ++ cell_text p.path

-- the line of the library
abbrev pub library_text : Option ProductMeaning → Text
library_text None = []
library_text (Some p) = codes "lib" ++ (place_text p ++ (10 ∷ []))

-- the features that a product requires
abbrev pub required_text : ProductMeaning → Text
required_text p = codes " | required: " ++ between_commas (λ t. t) p.required_features

-- the line of a product of this kind
abbrev pub product_line : Text → ProductMeaning → Text
product_line kind p = kind ++ (place_text p ++ (required_text p ++ (10 ∷ [])))

-- how a readme is shown, where it isn't left to the workspace
abbrev pub readme_of : Inheritable File → Option Text
readme_of (Set file) = Some (shown file)
readme_of Inherited = None

-- the lines of a build script and of a readme
abbrev pub package_text : {M : Type 0} → Option (PackageMeaning M) → Text
package_text None = []
package_text (Some p) =
    codes "build" ++ (cell_text (option_map shown p.build)
    ++ ((10 ∷ codes "readme") ++ (cell_text (readme_of p.readme) ++ (10 ∷ []))))

-- the library, the products list by list, and the package
abbrev pub completion_text : {M : Type 0} → ManifestMeaning M → Text
completion_text m =
    library_text m.lib
    ++ (flat_map (product_line (codes "bin")) m.bin
    ++ (flat_map (product_line (codes "example")) m.example
    ++ (flat_map (product_line (codes "test")) m.test
    ++ (flat_map (product_line (codes "bench")) m.bench
    ++ package_text m.«package»))))
