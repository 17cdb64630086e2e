use Rattle.cargo_toml_lint.proofs.Cited.{◌+◌, edges_left, length, Searches}
use Rattle.cargo_toml_lint.proofs.reach.row_of.Given as goal

abbrev pub invariant-loop-x : goal.invariant-loop-x
invariant-loop-x l = Searches l.reach l.start l.row.items l.waiting.items

abbrev pub decreases-loop-x : goal.decreases-loop-x
decreases-loop-x l = length l.waiting.items + edges_left l.reach.next.items l.row.items
