use Rattle.cargo_toml_write.proofs.Writers.{ascend-bytes, detail_of, err_from_is_err_and, features_meaning, features_way, stopped, table_view, view-Table}
use Rattle.cargo_toml_write.proofs.write.dependency.FeaturesToValue.to_value.Goals as goal

pub returns-in_err-table_of : goal.returns-in_err-table_of
returns-in_err-table_of c =
    let p = err_from_is_err_and c.from_residual.result c.from_residual.ensures.1 in
    rw (p.1, p.2) (stopped features_way (features_meaning c.args.self.now.lists.now c.args.self.now.details.now) _ c.in_err-table_of.ensures)

pub returns : goal.returns
returns c = (
  ascend-bytes detail_of c.args.self.now.details.now.entries c.len-details_ascend.ensures.ordered,
  (table_view c.in_ok-table_of.field-0, view-Table c.in_ok-table_of.field-0, c.in_ok-table_of.ensures),
)
