use Rattle.cargo_toml_lint.proofs.Cited.{arith}
use Rattle.cargo_toml_lint.proofs.{Rows.flag_set, Searching.led_by}
use Rattle.cargo_toml_lint.proofs.reach.Reach.add_reached.Goals as goal

pub returns-then-is_wanted-clause-flags : goal.returns-then-is_wanted-clause-flags
returns-then-is_wanted-clause-flags c = λ b. grind (arith, flag_set c.args.flags.now.items c.args.a (omega arith) b, c.join.ensures.joined b, c.row.ensures, led_by c.args.self.now c.args.a b c.requires.finished)
