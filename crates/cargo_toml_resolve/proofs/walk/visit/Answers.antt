use Rattle.std.proofs.Common.{rules, ◌≡◌, ◌≢◌, false, get_or, subst, arith}
use Rattle.cargo_toml_resolve.proofs.{Steps.among_at, Steps.item_at, Steps.item_is, Steps.one_more, Steps.passed_by, walk.visit.Goals.then-flags-place+in_ok-meet, walk.visit.Goals.else-flags-place}
use Rattle.cargo_toml_resolve.proofs.walk.visit.Goals as goal

pub bounds-flags-place : goal.bounds-flags-place
bounds-flags-place c = grind (arith, among_at c.args.targets.now c.loop-x.x-index c.loop-x-test.true, item_at, c.requires.inside)

pub meet-requires-clause-inside : goal.meet-requires-clause-inside
meet-requires-clause-inside c = grind (arith, among_at c.args.targets.now c.loop-x.x-index c.loop-x-test.true, item_is, c.requires.inside)

pub loop-x-preserved : goal.loop-x-preserved
loop-x-preserved c =
    let at = item_at c.args.targets.now c.loop-x.x-index _ _ c.loop-x-test.true c.x-item.is c.place.ensures in
    let is = item_is c.args.targets.now c.loop-x.x-index _ c.loop-x-test.true c.x-item.is in
    elim c.if-flags-place.branch [
      | then-flags-place+in_ok-meet w ↦ rw (w.found-is, w.met-is) (one_more c.args.targets.now c.args.flags.now c.args.wanted c.loop-x.x-index c.loop-x-test.true
          c.args.found.now.items c.loop-x.found.items w.meet.new.found.items c.args.met.now c.loop-x.met w.meet.new.met c.loop-x.invariant
          (subst (λ n. get_or c.args.flags.now n false ≡ c.args.wanted) at (search rules)) (rw is at w.in_ok-meet.ensures))
      | else-flags-place w ↦ rw (w.found-is, w.met-is) (passed_by c.args.targets.now c.args.flags.now c.args.wanted c.loop-x.x-index c.loop-x-test.true
          c.args.found.now.items c.loop-x.found.items c.loop-x.found.items c.args.met.now c.loop-x.met c.loop-x.met c.loop-x.invariant
          (subst (λ n. get_or c.args.flags.now n false ≢ c.args.wanted) at (search rules)))
    ]
