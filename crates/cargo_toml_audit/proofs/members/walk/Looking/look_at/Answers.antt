use Rattle.cargo_toml_audit.proofs.Cited.{sym}
use Rattle.cargo_toml_audit.proofs.Walked.{told_there}
use Rattle.cargo_toml_audit.proofs.members.walk.Looking.look_at.Goals as goal

pub returns-in-Some-clause-told : goal.returns-in-Some-clause-told
returns-in-Some-clause-told g c = λ d h. (h, sym (h.there _ _ (sym c.in-Some.ensures.value)))

pub returns-clause-told : goal.returns-clause-told
returns-clause-told g c = told_there _ _ _ _ _ (sym c.in_default.ensures.value) c.in_ok-from_str.ensures.ok c.in_ok-insert.ensures.updates
