use Rattle.cargo_toml_package.proofs.Cited.{AreEntriesOf, Entries}
use Rattle.cargo_toml_package.proofs.workspace_dependencies.near_at.Given as goal

abbrev pub invariant-loop : goal.invariant-loop
invariant-loop l = (entries : Entries) → AreEntriesOf entries l.initial.near → AreEntriesOf entries l.near
