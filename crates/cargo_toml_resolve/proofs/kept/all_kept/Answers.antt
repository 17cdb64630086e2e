use Rattle.cargo_toml_resolve.proofs.Learning.{in_order_still, kept_still, if_ok_weaker}
use Rattle.cargo_toml_resolve.proofs.kept.all_kept.Goals as goal

pub all_hashed-requires : goal.all_hashed-requires
all_hashed-requires g c = in_order_still c.args.features.items c.set_enablers.new.features.items c.in_ok-set_enablers.ensures.same c.requires.in_order

pub returns : goal.returns
returns g c = if_ok_weaker c.all_hashed.result _ _ (λ l h t removed made none.
    kept_still c.args.features.items c.set_enablers.new.features.items c.in_ok-set_enablers.ensures.same t removed l.features l.hidden (h t removed (c.in_ok-set_enablers.ensures.unremoved t made) none)) c.all_hashed.ensures
