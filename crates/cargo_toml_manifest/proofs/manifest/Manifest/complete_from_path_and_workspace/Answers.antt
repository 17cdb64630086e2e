use Rattle.std.proofs.{Common.inr, lemmas.Result.IfErr-weaker}
use Rattle.cargo_toml_manifest.proofs.manifest.Manifest.complete_from_path_and_workspace.Goals as goal

pub returns-clause-refused : goal.returns-clause-refused
returns-clause-refused g c =
    IfErr-weaker c.complete_from_abstract_filesystem.result _ _ (λ e h. inr h) c.complete_from_abstract_filesystem.ensures.wrapped
