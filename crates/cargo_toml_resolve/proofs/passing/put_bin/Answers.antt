use Rattle.{std.proofs.Common.arith, std.proofs.lemmas.Bool.cond-true, std.proofs.lemmas.Bool.cond-false, std.proofs.lemmas.List.map_push}
use Rattle.cargo_toml_resolve.{specs.Texts.texts_now, proofs.BinTurns.knows_more, proofs.BinTurns.was_false, proofs.BinTurns.was_true}
use Rattle.cargo_toml_resolve.proofs.passing.put_bin.Goals as goal

pub returns-in_ok-push-clause-put : goal.returns-in_ok-push-clause-put
returns-in_ok-push-clause-put c = grind (arith, was_false, map_push, cond-false, c.requires, c.in_ok-add_known.ensures.is_new)

pub returns-in_ok-push-clause-known : goal.returns-in_ok-push-clause-known
returns-in_ok-push-clause-known c = grind (arith, was_false, cond-false, map_push, knows_more c.args.known.now c.add_known.new.known (texts_now c.args.own.now.items) c.args.bin.now c.requires c.in_ok-add_known.ensures.added, c.requires, c.in_ok-add_known.ensures.is_new)

pub returns-else-branch-clause-put : goal.returns-else-branch-clause-put
returns-else-branch-clause-put c = grind (arith, was_true, cond-true, c.requires, c.in_ok-add_known.ensures.is_new)

pub returns-else-branch-clause-known : goal.returns-else-branch-clause-known
returns-else-branch-clause-known c = grind (arith, was_true, cond-true, knows_more c.args.known.now c.add_known.new.known (texts_now c.args.own.now.items) c.args.bin.now c.requires c.in_ok-add_known.ensures.added, c.requires, c.in_ok-add_known.ensures.is_new)
