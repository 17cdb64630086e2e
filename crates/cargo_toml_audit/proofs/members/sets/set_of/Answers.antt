use Rattle.cargo_toml_audit.proofs.Cited.{arith, string_bytes}
use Rattle.cargo_toml_audit.proofs.Texts.{in_next}
use Rattle.cargo_toml_audit.proofs.members.sets.set_of.Goals as goal

pub loop-text-preserved : goal.loop-text-preserved
loop-text-preserved c = λ t. grind (arith, c.in_ok-note.ensures t, c.loop-text.invariant t, in_next string_bytes c.args.texts.now c.loop-text.text-index c.text-item.result c.loop-text-test.true c.text-item.is t)
