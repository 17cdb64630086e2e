use Rattle.cargo_toml_manifest.proofs.Cited.{AnyRefuses, ManifestRefuses, any_tree, manifest_meaning, manifest_reads, view}
use Rattle.cargo_toml_manifest.proofs.Trees.{of_text}
use Rattle.cargo_toml_manifest.proofs.manifest.Manifest.from_str.Goals as goal

pub returns : goal.returns
returns c =
    of_text (manifest_meaning view) (manifest_reads any_tree) (ManifestRefuses any_tree AnyRefuses)
    c.args.text.now c.in_ok-tree_of.field-0 c.read_table.result c.in_ok-tree_of.ensures c.read_table.ensures
