use Rattle.cargo_toml_features.proofs.Gathering.{more_texts}
use Rattle.std.proofs.{Common.arith, lemmas.Grind.common_steps}
use Rattle.cargo_toml_features.proofs.sets.inserted.Goals as goal

pub loop-text-preserved : goal.loop-text-preserved
loop-text-preserved c = grind (arith, common_steps, more_texts)
