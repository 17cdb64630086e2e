use Rattle.std.proofs.Common.{length, ◌≡◌, ◌-◌, ◌+◌, ◌*◌}
use Rattle.cargo_toml_tools.specs.Platforms.{past_expression, past_list}
use Rattle.cargo_toml_tools.proofs.index.platform.+expression.Given as goal

abbrev pub decreases-past_expression : goal.decreases-past_expression
decreases-past_expression l = 3 * l.depth

abbrev pub decreases-past_nested : goal.decreases-past_nested
decreases-past_nested l = 3 * l.depth + 2

abbrev pub decreases-past_list : goal.decreases-past_list
decreases-past_list l = 3 * l.depth + 1

abbrev pub invariant-past_list-items : goal.invariant-past_list-items
invariant-past_list-items l =
    past_list (past_expression l.depth) (length l.text - l.counter) l.rest
    ≡ past_list (past_expression l.depth) (length l.text) l.text
