use Rattle.{std.proofs.Common.ℕ, std.proofs.Common.◌<◌, cargo_toml_graph.specs.Action.Text, cargo_toml_resolve.specs.Parts.LeadsAt}
use Rattle.cargo_toml_resolve.proofs.enabling.lead_nowhere.Given as goal

abbrev pub invariant-loop-feature : goal.invariant-loop-feature
invariant-loop-feature l = (j : ℕ) (x : Text) → j < l.feature-index → ¬ LeadsAt l.features j x
