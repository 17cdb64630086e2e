use Rattle.cargo_toml_c.proofs.Handing.{hands_out, hands_refusal, on_done}
use Rattle.cargo_toml_c.proofs.cargo_toml_manifest.Goals as goal

pub returns-clause-shallow : goal.returns-clause-shallow
returns-clause-shallow c = on_done c.manifest.result _ _ c.put.ensures.status c.manifest.ensures.shallow

pub returns-clause-shown : goal.returns-clause-shown
returns-clause-shown c = hands_out c.manifest.result _ _ _ _ _ c.put.ensures.status c.put.ensures.whole c.put.ensures.buffer c.manifest.ensures.shown

pub returns-clause-refused : goal.returns-clause-refused
returns-clause-refused c = hands_refusal c.manifest.result _ _ _ _ _ c.put.ensures.status c.put.ensures.whole c.put.ensures.buffer c.manifest.ensures.refused
