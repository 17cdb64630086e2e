use Rattle.cargo_toml_lint.proofs.Cited.{◌≡◌, arith, length}
use Rattle.cargo_toml_lint.proofs.{Counted.all_places, Counted.more_places, Leading.has_place}
use Rattle.cargo_toml_lint.proofs.linting.add_counting.Goals as goal

pub loop-place-preserved : goal.loop-place-preserved
loop-place-preserved g c = λ t are none d f x.
    more_places (c.loop-place.invariant t are none d f x) (c.in_ok-add_place.ensures t are none d f x)

pub loop-place-init : goal.loop-place-init
loop-place-init g c = λ t are none d f x. grind arith

pub returns : goal.returns
returns g c = λ t are none d f x.
    let all : c.loop-place.place ≡ length c.args.links.now.names.items = omega arith in
    all_places all (has_place t c.args.links.now are f) (c.loop-place.invariant t are none d f x)
