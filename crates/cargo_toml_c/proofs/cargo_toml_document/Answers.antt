use Rattle.cargo_toml_c.proofs.Handing.{hands_out, hands_refusal, on_done}
use Rattle.cargo_toml_c.proofs.cargo_toml_document.Goals as goal

pub returns-clause-shallow : goal.returns-clause-shallow
returns-clause-shallow c = on_done c.document.result _ _ c.put.ensures.status c.document.ensures.shallow

pub returns-clause-documented : goal.returns-clause-documented
returns-clause-documented c = hands_out c.document.result _ _ _ _ _ c.put.ensures.status c.put.ensures.whole c.put.ensures.buffer c.document.ensures.documented

pub returns-clause-refused : goal.returns-clause-refused
returns-clause-refused c = hands_refusal c.document.result _ _ _ _ _ c.put.ensures.status c.put.ensures.whole c.put.ensures.buffer c.document.ensures.refused
