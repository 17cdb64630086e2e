use Rattle.cargo_toml_c.proofs.Handing.{hands_out, hands_refusal, on_done}
use Rattle.cargo_toml_c.proofs.cargo_toml_index.Goals as goal

pub returns-clause-shallow : goal.returns-clause-shallow
returns-clause-shallow c = on_done c.index.result _ _ c.put.ensures.status c.index.ensures.shallow

pub returns-clause-indexed : goal.returns-clause-indexed
returns-clause-indexed c = hands_out c.index.result _ _ _ _ _ c.put.ensures.status c.put.ensures.whole c.put.ensures.buffer c.index.ensures.indexed

pub returns-clause-sum : goal.returns-clause-sum
returns-clause-sum c = on_done c.index.result _ _ c.put.ensures.status c.index.ensures.sum

pub returns-clause-refused : goal.returns-clause-refused
returns-clause-refused c = hands_refusal c.index.result _ _ _ _ _ c.put.ensures.status c.put.ensures.whole c.put.ensures.buffer c.index.ensures.refused
