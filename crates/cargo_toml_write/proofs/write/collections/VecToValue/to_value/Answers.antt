use Rattle.cargo_toml_write.proofs.Writers.{arith, err_from_is_err_and, items_end, items_err, view-Array}
use Rattle.cargo_toml_write.proofs.write.collections.VecToValue.to_value.Goals as goal

pub returns-in_err-to_value : goal.returns-in_err-to_value
returns-in_err-to_value g c =
    let p = err_from_is_err_and c.from_residual-in_err-to_value.result c.from_residual-in_err-to_value.ensures.1 in
    rw (p.1, p.2, ← c.deref-x-items.ensures.value) (items_err g.T.ToValue.way g.T.ToValue.meaning _ _ c.loop-x.values.items c.x-item.result _
    c.loop-x.invariant (omega arith) c.x-item.is c.in_err-to_value.ensures)

pub returns : goal.returns
returns g c = rw (view-Array c.loop-x.values, ← c.deref-x-items.ensures.value) (items_end g.T.ToValue.way g.T.ToValue.meaning _ c.loop-x.x-index c.loop-x.values.items c.loop-x.invariant (omega arith))
