use Rattle.std.proofs.Common.{◌∙◌, arith, length}
use Rattle.cargo_toml_tools.specs.Platforms.{past_expression}
use Rattle.cargo_toml_tools.proofs.Expressions.{has_next, none_deep, one_deeper}
use Rattle.cargo_toml_tools.proofs.index.platform.+expression.Goals as goal

pub past_expression-returns-in-Some : goal.past_expression-returns-in-Some
past_expression-returns-in-Some t c = c.past_nested.ensures ∙ one_deeper c.args.depth c.in-Some.left c.args.text.now (omega arith) (omega arith)

pub past_expression-returns-in-None : goal.past_expression-returns-in-None
past_expression-returns-in-None t c = none_deep c.args.depth c.args.text.now (omega arith)

pub past_list-items-preserved : goal.past_list-items-preserved
past_list-items-preserved t c =
    has_next (past_expression c.args.depth) (length c.args.text.now) c.items.counter c.items.rest.now (omega arith) c.in_ok-one.one.now
    c.in_default.ensures c.in_ok-one.ensures c.in_ok-rest.rest.now c.in_default-past_sign.ensures c.in_ok-rest.ensures
    ∙ c.items.invariant
