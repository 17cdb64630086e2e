use Rattle.cargo_toml_features.proofs.Cited.{arith, length, refl, ◌<◌}
use Rattle.cargo_toml_features.proofs.Making.{one_thinned, rest_same}
use Rattle.cargo_toml_features.proofs.redundant.thin_all.Goals as goal

pub loop-item-preserved : goal.loop-item-preserved
loop-item-preserved c =
    let i = c.loop-item.item-index in
    let rest = c.loop-item.invariant.rest in
    let inside : i < length c.loop-item.items = omega (arith, c.loop-item-test.true, c.loop-item.auto.items) in
    record {
      rest = rest_same i c.args.items.now c.loop-item.items _ c.thin_item.new.item rest refl;
      lost = λ E said. one_thinned E i c.args.items.now c.loop-item.items _ c.thin_item.new.item _ inside rest refl (c.thin_item.ensures E said) (c.loop-item.invariant.lost E said);
    }
