use Rattle.cargo_toml_lint.proofs.Cited.{◌∙◌, arith, false, get_or_read, length-append, sym}
use Rattle.cargo_toml_lint.proofs.{Rows.left_less, Rows.left_taken, Searching.meets_new, Searching.meets_old, Searching.meets_row, Searching.stood}
use Rattle.cargo_toml_lint.proofs.reach.meet.Goals as goal

pub returns-then-index-clause-goes_on : goal.returns-then-index-clause-goes_on
returns-then-index-clause-goes_on c = λ start s. meets_old c.args.reach.now start c.args.row.now.items c.args.waiting.now.items c.args.x s
    (sym (get_or_read c.args.row.now.items c.args.x c.index.result.now (omega arith) c.index.ensures false) ∙ c.if-index.true)

pub returns-in_ok-extend_from_slice-clause-goes_on : goal.returns-in_ok-extend_from_slice-clause-goes_on
returns-in_ok-extend_from_slice-clause-goes_on c = λ start s. rw (c.in_ok-extend_from_slice.ensures.items, c.targets.ensures) (meets_new c.args.reach.now start c.args.row.now.items c.args.waiting.now.items c.args.x s (omega arith))

pub returns-in_ok-extend_from_slice-clause-work : goal.returns-in_ok-extend_from_slice-clause-work
returns-in_ok-extend_from_slice-clause-work c = grind (
  arith,
  c.in_ok-extend_from_slice.ensures.items,
  c.targets.ensures,
  length-append,
  left_taken c.args.reach.now.next.items c.args.row.now.items c.args.x c.requires.inside (omega arith),
)

pub returns-else-is_empty-clause-goes_on : goal.returns-else-is_empty-clause-goes_on
returns-else-is_empty-clause-goes_on c = λ start s. meets_row c.args.reach.now start c.args.row.now.items c.args.waiting.now.items c.args.x s c.requires.whole
    (stood c.args.reach.now c.args.x c.row-own.result.now c.row-own.ensures c.is_empty.ensures c.if-is_empty.false) c.join.new.flags.items c.join.ensures.len (rw (← c.row-own.ensures) c.join.ensures.joined)

pub returns-else-is_empty-clause-work : goal.returns-else-is_empty-clause-work
returns-else-is_empty-clause-work c = grind (arith, left_less c.args.reach.now.next.items c.args.row.now.items c.join.new.flags.items c.join.ensures.len, c.join.ensures.joined)
