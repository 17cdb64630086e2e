-- A manifest, once what its workspace gives is put in.
use Rattle.std.specs.Prelude.{Option, Some, None, option_map}
use Rattle.cargo_toml_package.specs.Replacing.{replaced_target, replaced_targets}
use Rattle.cargo_toml_package.specs.Inheriting.{put_field, installed_package}
use Rattle.cargo_toml_package.specs.Packages.{PackageMeaning}
use Rattle.cargo_toml_package.specs.declared.inheriting.NewFields.{NewFields}
use Rattle.cargo_toml_parts.specs.Reads.{map_meaning}
use Rattle.cargo_toml_parts.specs.Lints.{lint_meaning}
use Rattle.cargo_toml_manifest.specs.Finding.{with_found}
use Rattle.cargo_toml_manifest.specs.Inheriting.{own_tables}
use Rattle.cargo_toml_manifest.specs.Manifests.{ManifestMeaning}
use Rattle.cargo_toml_manifest.specs.declared.finding.Completion.{Completion}
use Rattle.cargo_toml_package.specs.declared.sharing.NewParts.{NewParts}

abbrev pub installed_if_there : {M : Type 0} → Option (PackageMeaning M) → Option NewFields
    → Option (PackageMeaning M)
installed_if_there (Some p) (Some new) = Some (installed_package p new)
installed_if_there p new = p

-- a package that takes these fields, if there are some
abbrev pub taken : {M : Type 0} → PackageMeaning M → Option NewFields → PackageMeaning M
taken p None = p
taken p (Some new) = installed_package p new

-- a manifest with these parts in place of what it left to the workspace
abbrev pub installed : {M : Type 0} → ManifestMeaning M → NewParts → ManifestMeaning M
installed m new = record m {
  «package» = installed_if_there m.«package» new.«package»;
  dependencies = (replaced_target (own_tables m) new.tables).dependencies;
  dev_dependencies = (replaced_target (own_tables m) new.tables).dev_dependencies;
  build_dependencies = (replaced_target (own_tables m) new.tables).build_dependencies;
  target = replaced_targets m.target new.targets.items;
  lints = put_field m.lints (option_map (map_meaning (map_meaning lint_meaning)) new.lints);
}

-- the manifest with these parts, and then with what was found by them
abbrev pub with_completion : {M : Type 0} → ManifestMeaning M → Completion → ManifestMeaning M
with_completion m new = with_found (installed m new.parts) new.found
