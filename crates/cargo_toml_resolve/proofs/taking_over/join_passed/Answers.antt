use Rattle.cargo_toml_resolve.proofs.Cited.{Among, DoesAt, IsJoin, Some, Text, action_at, get_or, length, rules, slice_get-get_or, subst, take_all, ◌<◌, ◌≡◌, ◌⊎◌}
use Rattle.cargo_toml_resolve.proofs.{Steps.among_at, Steps.item_at, TakenOver.begin_join, TakenOver.next_join, InOrder.place_below}
use Rattle.cargo_toml_resolve.proofs.taking_over.join_passed.Goals as goal

pub loop-b-init : goal.loop-b-init
loop-b-init c = λ k. begin_join c.args.features.now c.args.passed.now k (action_at c.args.own.now k)

pub offset_bounds-features-place : goal.offset_bounds-features-place
offset_bounds-features-place c = (let lt : c.place.result < length c.args.features.now = place_below c.args.passed.now (length c.args.features.now) c.loop-b.b-index _ _ c.requires c.loop-b-test.true c.b-item.is c.place.ensures in search rules)

pub bounds-features-place : goal.bounds-features-place
bounds-features-place c = place_below c.args.passed.now (length c.args.features.now) c.loop-b.b-index _ _ c.requires c.loop-b-test.true c.b-item.is c.place.ensures

pub loop-b-preserved : goal.loop-b-preserved
loop-b-preserved c = λ k.
    let vs = c.args.features.now in
    let b = get_or c.args.passed.now c.loop-b.b-index 0 in
    let lt = c.requires b (among_at c.args.passed.now c.loop-b.b-index c.loop-b-test.true) in
    next_join vs c.args.passed.now k (action_at c.args.own.now k) c.loop-b.b-index (get_or vs b c.index-features-place.result) (action_at c.loop-b.own k) (action_at c.add_actions.new.own k) c.loop-b-test.true
    (slice_get-get_or vs b c.index-features-place.result lt) (c.loop-b.invariant k) ((rw (item_at c.args.passed.now c.loop-b.b-index _ _ c.loop-b-test.true c.b-item.is c.place.ensures) at c.in_ok-add_actions.ensures) k)

pub returns : goal.returns
returns c = subst (λ ps. (k : Text) → IsJoin (λ a. (action_at c.args.own.now k ≡ Some a) ⊎ DoesAt c.args.features.now (Among ps) k a) (action_at c.loop-b.own k)) (take_all c.loop-b.b-index c.args.passed.now c.loop-b-test.false) c.loop-b.invariant
