use Rattle.cargo_toml_c.proofs.Handing.{hands_out, hands_refusal, on_done}
use Rattle.cargo_toml_c.proofs.cargo_toml_complete.Goals as goal

pub returns-clause-shallow : goal.returns-clause-shallow
returns-clause-shallow c = on_done c.complete.result _ _ c.put.ensures.status c.complete.ensures.shallow

pub returns-clause-completed : goal.returns-clause-completed
returns-clause-completed c = hands_out c.complete.result _ _ _ _ _ c.put.ensures.status c.put.ensures.whole c.put.ensures.buffer c.complete.ensures.completed

pub returns-clause-refused : goal.returns-clause-refused
returns-clause-refused c = hands_refusal c.complete.result _ _ _ _ _ c.put.ensures.status c.put.ensures.whole c.put.ensures.buffer c.complete.ensures.refused
