use Rattle.cargo_toml_features.proofs.Cited.{IsMadeOf, subst, sym}
use Rattle.cargo_toml_features.proofs.Making.{items_next}
use Rattle.cargo_toml_features.proofs.made.feature_of.Goals as goal

pub loop-item-preserved : goal.loop-item-preserved
loop-item-preserved c = subst (λ is. IsMadeOf c.args.vertex.now is c.add_item.new.feature)
    (sym (items_next c.args.items.now c.loop-item.item-index _ c.loop-item-test.true))
    (c.in_ok-add_item.ensures c.args.vertex.now _ c.loop-item.invariant)
