use Rattle.cargo_toml_c.proofs.Handing.{hands_out, hands_refusal, on_done}
use Rattle.cargo_toml_c.proofs.cargo_toml_features.Goals as goal

pub returns-clause-shallow : goal.returns-clause-shallow
returns-clause-shallow c = on_done c.features.result _ _ c.put.ensures.status c.features.ensures.shallow

pub returns-clause-listed : goal.returns-clause-listed
returns-clause-listed c = hands_out c.features.result _ _ _ _ _ c.put.ensures.status c.put.ensures.whole c.put.ensures.buffer c.features.ensures.listed

pub returns-clause-refused : goal.returns-clause-refused
returns-clause-refused c = hands_refusal c.features.result _ _ _ _ _ c.put.ensures.status c.put.ensures.whole c.put.ensures.buffer c.features.ensures.refused
