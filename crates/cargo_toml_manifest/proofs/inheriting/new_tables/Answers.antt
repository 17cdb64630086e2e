use Rattle.cargo_toml_manifest.proofs.Cited.{err_from_is_err_and, held, own_tables}
use Rattle.cargo_toml_manifest.proofs.Inherited.{stops_at_build, stops_at_dev}
use Rattle.cargo_toml_manifest.proofs.inheriting.new_tables.Goals as goal

pub returns-in_err-build_dependencies : goal.returns-in_err-build_dependencies
returns-in_err-build_dependencies g c =
    let p = err_from_is_err_and c.from_residual-in_err-build_dependencies.result c.from_residual-in_err-build_dependencies.ensures.1 in
    rw (p.1, p.2)
    (stops_at_build _ c.args.base.now (own_tables (held c.args.manifest.now)) _ _ c.in_ok-dependencies.ensures
    c.in_err-build_dependencies.ensures)

pub returns-in_err-dev_dependencies : goal.returns-in_err-dev_dependencies
returns-in_err-dev_dependencies g c =
    let p = err_from_is_err_and c.from_residual-in_err-dev_dependencies.result c.from_residual-in_err-dev_dependencies.ensures.1 in
    rw (p.1, p.2)
    (stops_at_dev _ c.args.base.now (own_tables (held c.args.manifest.now)) _ _ _ c.in_ok-dependencies.ensures
    c.in_ok-build_dependencies.ensures c.in_err-dev_dependencies.ensures)
