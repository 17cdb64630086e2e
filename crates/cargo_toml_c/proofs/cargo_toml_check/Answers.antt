use Rattle.cargo_toml_c.proofs.Handing.{hands_out, hands_refusal, on_done}
use Rattle.cargo_toml_c.proofs.cargo_toml_check.Goals as goal

pub returns-clause-shallow : goal.returns-clause-shallow
returns-clause-shallow c = on_done c.check.result _ _ c.put.ensures.status c.check.ensures.shallow

pub returns-clause-checked : goal.returns-clause-checked
returns-clause-checked c = hands_out c.check.result _ _ _ _ _ c.put.ensures.status c.put.ensures.whole c.put.ensures.buffer c.check.ensures.checked

pub returns-clause-refused : goal.returns-clause-refused
returns-clause-refused c = hands_refusal c.check.result _ _ _ _ _ c.put.ensures.status c.put.ensures.whole c.put.ensures.buffer c.check.ensures.refused
