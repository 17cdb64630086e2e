use Rattle.cargo_toml_c.proofs.Handing.{hands_out, hands_refusal, on_done}
use Rattle.cargo_toml_c.proofs.cargo_toml_lint.Goals as goal

pub returns-clause-shallow : goal.returns-clause-shallow
returns-clause-shallow c = on_done c.lint.result _ _ c.put.ensures.status c.lint.ensures.shallow

pub returns-clause-told : goal.returns-clause-told
returns-clause-told c = hands_out c.lint.result _ _ _ _ _ c.put.ensures.status c.put.ensures.whole c.put.ensures.buffer c.lint.ensures.told

pub returns-clause-refused : goal.returns-clause-refused
returns-clause-refused c = hands_refusal c.lint.result _ _ _ _ _ c.put.ensures.status c.put.ensures.whole c.put.ensures.buffer c.lint.ensures.refused
