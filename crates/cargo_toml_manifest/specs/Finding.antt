-- What is found in the folders around a manifest.
use Rattle.std.specs.Prelude.{false, Option, Some, None, unwrap_or}
use Rattle.cargo_toml_parts.specs.InheritableValues.{value_of}
use Rattle.cargo_toml_parts.specs.declared.inheritable.Inheritable.TheVariants.{Set}
use Rattle.cargo_toml_parts.specs.Settings.{flag}
use Rattle.cargo_toml_parts.specs.declared.settings.Edition.TheVariants.{E2015}
use Rattle.cargo_toml_discovery.specs.Around.{around}
use Rattle.cargo_toml_discovery.specs.Discovering.{StatedMeaning, DiscoveredMeaning}
use Rattle.cargo_toml_discovery.specs.Discovering.{discovered, discovered_meaning}
use Rattle.cargo_toml_discovery.specs.Names.{Name}
use Rattle.cargo_toml_discovery.specs.Seen.{Seen, seen, seen_as}
use Rattle.cargo_toml_discovery.specs.Told.{Told}
use Rattle.cargo_toml_discovery.specs.declared.discovery.Discovered.{Discovered}
use Rattle.cargo_toml_discovery.specs.declared.listings.Wanted.{Wanted}
use Rattle.cargo_toml_package.specs.Packages.{PackageMeaning}
use Rattle.cargo_toml_manifest.specs.Manifests.{ManifestMeaning}

-- which lists of the package are to be found in folders
abbrev pub wanted_by : {M : Type 0} → PackageMeaning M → Wanted
wanted_by p = record {
  bins = p.autobins;
  examples = p.autoexamples;
  tests = p.autotests;
  benches = p.autobenches;
}

-- what a manifest with this package states of its products, once nothing is left to the workspace
abbrev pub stated_by : {M : Type 0} → ManifestMeaning M → PackageMeaning M → StatedMeaning
stated_by m p = record {
  name = p.name;
  edition = unwrap_or (value_of p.edition) E2015;
  autolib = p.autolib;
  wanted = wanted_by p;
  stated = record {
    lib = m.lib;
    bin = m.bin;
    example = m.example;
    test = m.test;
    bench = m.bench;
    build = p.build;
    readme = unwrap_or (value_of p.readme) (flag false);
  };
}

-- the manifest with this package, and what was found
abbrev pub with_discovered : {M : Type 0} → ManifestMeaning M → PackageMeaning M → DiscoveredMeaning
    → ManifestMeaning M
with_discovered m p d = record m {
  «package» = Some (record p { build = d.build; readme = Set d.readme });
  lib = d.lib;
  bin = d.bin;
  example = d.example;
  test = d.test;
  bench = d.bench;
}

-- the manifest with what is found around it: nothing is looked for without a package
abbrev pub found_for : {M : Type 0} → ManifestMeaning M → Option (PackageMeaning M) → (Name → Told)
    → Seen (ManifestMeaning M)
found_for m None told = seen m
found_for m (Some p) told =
    seen_as (λ a. with_discovered m p (discovered (stated_by m p) a)) (around told (wanted_by p))

-- the manifest with what is found around it
abbrev pub found_around : {M : Type 0} → ManifestMeaning M → (Name → Told)
    → Seen (ManifestMeaning M)
found_around m told = found_for m m.«package» told

-- the manifest, once what was found is put in, where it has a package
abbrev pub with_found_for : {M : Type 0} → ManifestMeaning M → Option (PackageMeaning M)
    → Option Discovered → ManifestMeaning M
with_found_for m (Some p) (Some d) = with_discovered m p (discovered_meaning d)
with_found_for m p d = m

abbrev pub with_found : {M : Type 0} → ManifestMeaning M → Option Discovered → ManifestMeaning M
with_found m d = with_found_for m m.«package» d
