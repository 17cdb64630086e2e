use Rattle.cargo_toml_write.proofs.ReadParts.{document_asked, tree_asked}
use Rattle.cargo_toml_write.proofs.laws.read_manifests_are_written.Goals as goal

pub returns : goal.returns
returns c = record { of_tree = tree_asked; of_document = document_asked }
