use Rattle.cargo_toml_resolve.proofs.TakenOver.{comes_to_hold}
use Rattle.cargo_toml_resolve.proofs.taking_over.hold.Goals as goal

pub returns : goal.returns
returns c =
    let vs = c.args.features.now.items in
    let v = c.index_mut-feature.result.now in
    rw (c.place-2.ensures, c.place.ensures) (comes_to_hold vs c.args.at c.args.passed.now c.requires.apart v c.index_mut-feature-2.result.now c.requires.at (rw c.place.ensures at c.index_mut-feature.ensures.value)
    c.replace-own.new.dest c.replace-own.result c.join_passed.new.own c.args.names c.as_slice.result.now c.replace-own.ensures.value (rw c.place.ensures at c.as_slice.ensures.value)
    (rw (c.place-2.ensures, c.place.ensures) at c.index_mut-feature-2.ensures.value) c.in_ok-join_passed.ensures)
