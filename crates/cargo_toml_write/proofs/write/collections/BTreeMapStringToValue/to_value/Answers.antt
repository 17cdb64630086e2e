use Rattle.cargo_toml_write.proofs.Writers.{err_from_is_err_and, map_meaning, map_way, stopped, table_view, view-Table}
use Rattle.cargo_toml_write.proofs.write.collections.BTreeMapStringToValue.to_value.Goals as goal

pub returns-in_err-table_of : goal.returns-in_err-table_of
returns-in_err-table_of g c =
    let p = err_from_is_err_and c.from_residual.result c.from_residual.ensures.1 in
    rw (p.1, p.2) (stopped (map_way g.T.ToValue.way) (map_meaning g.T.ToValue.meaning c.args.self.now) _ c.in_err-table_of.ensures)

pub returns : goal.returns
returns g c = (table_view c.in_ok-table_of.field-0, view-Table c.in_ok-table_of.field-0, c.in_ok-table_of.ensures)
