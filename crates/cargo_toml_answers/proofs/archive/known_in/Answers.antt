use Rattle.std.proofs.Common.{arith}
use Rattle.cargo_toml_answers.specs.Archived.{stands_in}
use Rattle.cargo_toml_answers.proofs.Gaining.{passes_more}
use Rattle.cargo_toml_answers.proofs.archive.known_in.Goals as goal

pub loop-name-preserved : goal.loop-name-preserved
loop-name-preserved c =
    passes_more (stands_in c.args.files.now c.args.folder.now) c.args.names.now c.loop-name.name-index _ _ (omega arith) c.loop-name.invariant c.in_ok-push_known.ensures
