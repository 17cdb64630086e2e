-- How manifests are written.
use Rattle.std.specs.Prelude.{List, [], ◌∷◌, codes}
use Rattle.cargo_toml_package.specs.Features.{FeaturesMeaning}
use Rattle.cargo_toml_manifest.specs.Manifests.{ManifestMeaning}
use Rattle.cargo_toml_write.specs.Ways.{inheritable_way, list_way, map_way, table_way}
use Rattle.cargo_toml_write.specs.Writes.{Row, Way, given_row, optional_row}
use Rattle.cargo_toml_write.specs.WrittenDependencies.{dependencies_way, features_way, target_way}
use Rattle.cargo_toml_write.specs.WrittenPackages.{package_way, workspace_way}
use Rattle.cargo_toml_write.specs.WrittenTables.{badges_way, lint_groups_way, product_way}
use Rattle.cargo_toml_write.specs.WrittenTables.{profiles_way}

-- its features, and what is said of them
abbrev pub all_features : {M : Type 0} → ManifestMeaning M → FeaturesMeaning
all_features m = (m.features, m.feature_details)

-- the rows of a manifest, whose metadata are written in the given way
abbrev pub manifest_rows : {M : Type 0} → Way M → ManifestMeaning M → List Row
manifest_rows metadata m =
    optional_row (codes "package") (package_way metadata) m.«package»
    ∷ optional_row (codes "workspace") (workspace_way metadata) m.workspace
    ∷ given_row (codes "dependencies") dependencies_way m.dependencies
    ∷ given_row (codes "dev-dependencies") dependencies_way m.dev_dependencies
    ∷ given_row (codes "build-dependencies") dependencies_way m.build_dependencies
    ∷ given_row (codes "target") (map_way target_way) m.target
    ∷ given_row (codes "features") features_way (all_features m)
    ∷ given_row (codes "replace") dependencies_way m.replace
    ∷ given_row (codes "patch") (map_way dependencies_way) m.patch
    ∷ optional_row (codes "lib") product_way m.lib
    ∷ given_row (codes "profile") profiles_way m.profile
    ∷ given_row (codes "badges") badges_way m.badges
    ∷ given_row (codes "bin") (list_way product_way) m.bin
    ∷ given_row (codes "bench") (list_way product_way) m.bench
    ∷ given_row (codes "test") (list_way product_way) m.test
    ∷ given_row (codes "example") (list_way product_way) m.example
    ∷ given_row (codes "lints") (inheritable_way lint_groups_way) m.lints
    ∷ []

-- how a manifest is written, where its metadata are in the given way
abbrev pub manifest_way : {M : Type 0} → Way M → Way (ManifestMeaning M)
manifest_way metadata = table_way (manifest_rows metadata)
