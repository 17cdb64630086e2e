-- A manifest that is read, given a version, written, and read again.
use Rattle.std.specs.Prelude.{◌≡◌, ◌≤◌, ℕ, List, false, Some, Ok, option_map}
use Rattle.semver.specs.Parse.{version_parts}
use Rattle.toml.specs.Data.{Data, Members, members_depth, table}
use Rattle.toml.specs.Parse.{parse_document}
use Rattle.cargo_toml.specs.Manifests.{ManifestMeaning, is_zero, manifest_reads}
use Rattle.cargo_toml.specs.{Asked.ManifestMeets, Inheritable.TheVariants.Set}
use Rattle.cargo_toml.specs.{Packages.PackageMeaning, Reread.reread, Reread.says_true}
use Rattle.cargo_toml.specs.{Texts.any_tree, Texts.document_reads, Versions.Parts, Ways.free_way}
use Rattle.cargo_toml.specs.{WrittenManifests.manifest_way}
use Rattle.cargo_toml_bench.specs.Spelled.{Spells}

-- a manifest with this version of its package, if it has one
abbrev pub with_version : {M : Type 0} → Parts → ManifestMeaning M → ManifestMeaning M
with_version {M = M} v m = record m {
  «package» = option_map (λ (p : PackageMeaning M). record p { version = Set v }) m.«package»;
}

-- the text is printed of a tree of the manifest; where that nests no deeper than `toml` reads, the
-- text is read as what the manifest is read again as
pub record IsPrinted (m : ManifestMeaning Data) (text : List ℕ) : Type 0 where
  pub tree : Members
  pub written : (manifest_way free_way).trees m (table tree)
  pub again : members_depth tree ≤ 80
      → document_reads (manifest_reads any_tree) (parse_document text) ≡ Some (reread m)

-- the text is printed of the manifest that the bytes spell, with this version of its package
pub record IsVersioned (bytes said text : List ℕ) : Type 0 where
  pub manifest : ManifestMeaning Data
  pub spelled : Spells bytes manifest
  pub parts : Parts
  pub version : version_parts said ≡ Ok parts
  pub printed : IsPrinted (with_version parts manifest) text
  -- all else is the same, unless a dependency says `workspace = false`, or the version is 0.0.0
  pub same : ManifestMeets says_true manifest → is_zero (Set parts) ≡ false
      → reread (with_version parts manifest) ≡ with_version parts manifest
