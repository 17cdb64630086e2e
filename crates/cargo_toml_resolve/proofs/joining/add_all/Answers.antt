use Rattle.{std.proofs.Common.arith, std.proofs.lemmas.Grind.common_steps, std.proofs.lemmas.Map.Iter.iter_end, cargo_toml_features.proofs.TextKeys.inserted, cargo_toml_resolve.proofs.Sets.one_more}
use Rattle.cargo_toml_resolve.proofs.joining.add_all.Goals as goal

pub loop-text-preserved : goal.loop-text-preserved
loop-text-preserved c = λ x. one_more c.args.texts.now c.loop-text.texts c.insert.new.self c.loop-text.yielded c.in-Some.text x (c.loop-text.invariant x) (inserted c.in-Some.text.now.now c.loop-text.texts c.insert.new.self c.in_ok-insert.ensures.updates x)

pub returns : goal.returns
returns c = grind (arith, common_steps, iter_end, c.loop-text.invariant)
