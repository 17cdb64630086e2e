use Rattle.cargo_toml_manifest.proofs.Cited.{AnyRefuses, ManifestRefuses, any_tree, manifest_meaning, manifest_reads, view}
use Rattle.cargo_toml_manifest.proofs.Trees.{of_bytes}
use Rattle.cargo_toml_manifest.proofs.manifest.Manifest.from_slice.Goals as goal

pub returns : goal.returns
returns c =
    of_bytes (manifest_meaning view) (manifest_reads any_tree) (ManifestRefuses any_tree AnyRefuses)
    c.args.bytes.now c.in_ok-tree_of_bytes.field-0 c.read_table.result c.in_ok-tree_of_bytes.ensures c.read_table.ensures
