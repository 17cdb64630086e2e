use Rattle.cargo_toml_write.proofs.Cited.{arith, view-Boolean, view-String}
use Rattle.cargo_toml_write.proofs.write.plain.OptionalFileToValue.to_value.Goals as goal

pub returns-in-Flag-clause-written : goal.returns-in-Flag-clause-written
returns-in-Flag-clause-written c = rw c.in-Flag.is (view-Boolean _)

pub returns-in_ok-clone-in-Path-clause-written : goal.returns-in_ok-clone-in-Path-clause-written
returns-in_ok-clone-in-Path-clause-written c = rw c.in-Path.is (grind (arith, view-String, c.in_ok-clone-in-Path.ensures.cases))
