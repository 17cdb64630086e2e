use Rattle.cargo_toml_manifest.specs.Manifests.{manifest_meaning, manifest_reads, ManifestRefuses}
use Rattle.cargo_toml_manifest.proofs.Trees.{of_text}
use Rattle.cargo_toml_manifest.proofs.manifest.Manifest.from_text.Goals as goal

pub returns : goal.returns
returns g c =
    of_text (manifest_meaning g.Metadata.FromValue.meaning) (manifest_reads g.Metadata.FromValue.from_tree) (ManifestRefuses g.Metadata.FromValue.from_tree g.Metadata.FromValue.from_refuses)
    c.args.text.now c.in_ok-tree.tree c.read_table.result c.in_ok-tree.ensures c.read_table.ensures
