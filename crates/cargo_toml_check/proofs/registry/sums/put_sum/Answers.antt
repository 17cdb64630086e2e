use Rattle.std.proofs.Common.{Some, ap, bytes_eq, ◌∙◌}
use Rattle.std.specs.{BTreeMap.get_by, Cmp.Lexicographic.slice_cmp, Option.option_copied, Ordering.nat_cmp}
use Rattle.std.proofs.lemmas.Map.Text.{btree_map_updates_str}
use Rattle.cargo_toml_check.proofs.Latest.{map_cond}
use Rattle.cargo_toml_check.proofs.registry.sums.put_sum.Goals as goal

pub returns-in-Ok : goal.returns-in-Ok
returns-in-Ok c = λ name.
    ap option_copied (btree_map_updates_str c.args.file.now c.args.sums.now c.insert.new.self (Some c.args.sum) c.in-Ok.ensures.updates name)
    ∙ map_cond (λ x. x.now) (bytes_eq c.args.file.now name) c.args.sum (get_by (λ q. slice_cmp nat_cmp name q.now) c.args.sums.now)
