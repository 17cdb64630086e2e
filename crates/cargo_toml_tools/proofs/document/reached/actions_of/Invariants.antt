use Rattle.cargo_toml_tools.proofs.Cited.{◌≡◌, action_at, None, Text}
use Rattle.cargo_toml_tools.proofs.Reaching.{joined}
use Rattle.cargo_toml_tools.proofs.document.reached.actions_of.Given as goal

abbrev pub invariant-loop-name : goal.invariant-loop-name
invariant-loop-name g l = (k : Text) → joined l.features k (action_at l.actions k) l.name-iterator ≡ joined l.features k None l.names.keys
