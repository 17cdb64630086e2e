use Rattle.cargo_toml_resolve.proofs.Cited.{Among, GainEnabler, [], among_at, arith, but_enablers, get_or, subst, take, take_all, ◌+◌, ◌≡◌}
use Rattle.cargo_toml_resolve.proofs.{Steps.among_more, Steps.item_is, Learning.nobody_learns, Learning.then_learn, InPlace.alike_len}
use Rattle.cargo_toml_resolve.proofs.enabling.enable_along.Goals as goal

pub loop-at-init : goal.loop-at-init
loop-at-init c = nobody_learns (λ y e. (e ≡ c.args.source.now) × Among [] y) c.args.features.now.items (λ y e p. p.1)

pub enable_at-requires : goal.enable_at-requires
enable_at-requires c = grind (arith, item_is, among_at c.args.row.now c.loop-at.at-index 0 c.loop-at-test.true, alike_len but_enablers c.args.features.now.items c.loop-at.features.items c.loop-at.invariant.same, c.requires)

pub loop-at-preserved : goal.loop-at-preserved
loop-at-preserved c =
    let row = c.args.row.now in
    let i = c.loop-at.at-index in
    then_learn (λ y e. (e ≡ c.args.source.now) × Among (take i row) y) (λ y e. (e ≡ c.args.source.now) × (y ≡ get_or row i 0)) (λ y e. (e ≡ c.args.source.now) × Among (take (i + 1) row) y) c.args.features.now.items c.loop-at.features.items c.enable_at.new.features.items
    (λ y e lt. grind (arith, among_more row i y c.loop-at-test.true)) c.loop-at.invariant (rw (item_is c.args.row.now c.loop-at.at-index _ c.loop-at-test.true c.at-item.is) at c.in_ok-enable_at.ensures)

pub returns : goal.returns
returns c =
    let all : take c.loop-at.at-index c.args.row.now ≡ c.args.row.now = take_all c.loop-at.at-index c.args.row.now c.loop-at-test.false in
    subst (λ row. GainEnabler (Among row) c.args.source.now c.args.features.now.items c.loop-at.features.items) all c.loop-at.invariant
