use Rattle.cargo_toml_resolve.proofs.Cited.{Bor, Text, [], arith, get_or-map, length, rules, subst, ◌<◌, ◌≡◌}
use Rattle.cargo_toml_resolve.proofs.Learning.{HaveLearnt, as_many, none_learnt, one_more_learnt}
use Rattle.cargo_toml_resolve.proofs.enabling.learn_leaders.Goals as goal

pub loop-own-init : goal.loop-own-init
loop-own-init c = none_learnt c.args.features.now.items

pub loop-own-preserved : goal.loop-own-preserved
loop-own-preserved c =
    let keys = c.args.keys.now in
    let lt : c.loop-own.own < length keys = search rules in
    let blank : Bor Text = record { ref_ptr = (0, 0); now = [] } in
    one_more_learnt c.loop-own.own keys c.args.features.now.items c.loop-own.features.items c.enable_along.new.features.items
    c.clear.new.self.items c.push_targets.new.row.items c.as_slice.result.now c.index.result.now _ lt
    c.requires.keys c.clear.ensures.items c.as_slice.ensures.value c.index.ensures (get_or-map (λ (k : Bor Text). k.now) keys c.loop-own.own blank)
    (rw c.at.ensures at c.in_ok-push_targets.ensures) c.loop-own.invariant c.in_ok-enable_along.ensures

pub returns : goal.returns
returns c =
    let vs = c.args.features.now.items in
    let keys = c.args.keys.now in
    let all : c.loop-own.own ≡ length vs = omega (arith, c.loop-own-test.false, c.loop-own.auto.own-end, as_many keys vs c.requires.keys) in
    subst (λ n. HaveLearnt n vs c.loop-own.features.items) all c.loop-own.invariant
