use Rattle.{std.proofs.Common.arith, std.proofs.lemmas.Result.on_ok_weaker, cargo_toml_resolve.proofs.NumberRows.both_gained, cargo_toml_resolve.proofs.NumberRows.none_gained}
use Rattle.cargo_toml_resolve.proofs.enabling.push_targets.Goals as goal

pub returns-then-leads_nowhere : goal.returns-then-leads_nowhere
returns-then-leads_nowhere c = grind (arith, none_gained, c.leads_nowhere.ensures)

pub returns : goal.returns
returns c = on_ok_weaker c.push_actions.result (both_gained _ _ _ _ _ _ _ c.in_ok-push_names.ensures) c.push_actions.ensures
