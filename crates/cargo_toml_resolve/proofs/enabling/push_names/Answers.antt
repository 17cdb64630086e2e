use Rattle.{std.proofs.Common.rules, std.proofs.Common.◌≡◌, std.proofs.Common.map, std.proofs.lemmas.Map.Iter.iter_end, std.proofs.lemmas.Result.on_ok_weaker}
use Rattle.cargo_toml_resolve.proofs.NumberRows.{name_gained, names_gained, one_gained}
use Rattle.cargo_toml_resolve.proofs.enabling.push_names.Goals as goal

pub returns-in-Some : goal.returns-in-Some
returns-in-Some c = on_ok_weaker c.push_target.result (one_gained c.args.keys.now c.args.own c.args.named.now c.in-Some.name.now c.args.row.now.items c.push_target.new.row.items c.in-Some.ensures) c.push_target.ensures

pub loop-name-preserved : goal.loop-name-preserved
loop-name-preserved c = name_gained c.args.keys.now c.args.own c.loop-name.yielded c.in-Some-name.name c.args.row.now.items c.loop-name.row.items c.push_target-in-loop-name.new.row.items c.loop-name.invariant c.in_ok-push_target.ensures

pub returns : goal.returns
returns c =
    let all : map (λ k. k.now) c.loop-name.yielded ≡ c.args.named.now.keys = search (rules, iter_end) in
    names_gained c.args.keys.now c.args.own c.args.named.now c.loop-name.yielded c.args.row.now.items c.loop-name.row.items all c.loop-name.invariant
