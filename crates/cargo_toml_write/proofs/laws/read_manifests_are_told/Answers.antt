use Rattle.cargo_toml_write.proofs.ReadParts.{document_stays, document_told, tree_told}
use Rattle.cargo_toml_write.proofs.laws.read_manifests_are_told.Goals as goal

pub returns : goal.returns
returns c = record { of_tree = tree_told; of_document = document_told; stays = document_stays }
