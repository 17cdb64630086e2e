use Rattle.cargo_toml_resolve.proofs.Cited.{false≢true, sym, ◌∙◌}
use Rattle.cargo_toml_resolve.proofs.NumberRows.{action_left, action_plain}
use Rattle.cargo_toml_resolve.proofs.numbering.push_action.Goals as goal

pub returns-in_ok-push_target : goal.returns-in_ok-push_target
returns-in_ok-push_target c = action_plain c.args.keys.now c.args.own c.args.key.now c.args.action.now c.args.row.now.items c.push_target.new.row.items (c.is_plain.ensures.0 c.if-is_plain.true) c.in_ok-push_target.ensures

pub returns-else-is_plain : goal.returns-else-is_plain
returns-else-is_plain c = action_left c.args.keys.now c.args.own c.args.key.now c.args.action.now c.args.row.now.items (λ p. false≢true (sym c.if-is_plain.false ∙ c.is_plain.ensures.1 p))
