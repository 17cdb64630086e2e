use Rattle.cargo_toml_manifest.proofs.Cited.{err_from_is_err_and, held}
use Rattle.cargo_toml_manifest.proofs.Inherited.{all_given, stops_at_lints, stops_at_package}
use Rattle.cargo_toml_manifest.proofs.inheriting.parts_from.Goals as goal

pub returns-in_err-lints : goal.returns-in_err-lints
returns-in_err-lints g c =
    let p = err_from_is_err_and c.from_residual-in_err-lints.result c.from_residual-in_err-lints.ensures.1 in
    rw (p.1, p.2)
    (stops_at_lints _ _ _ c.args.base.now (held c.args.manifest.now) _ _ _ c.in_ok-tables.ensures
    c.in_ok-targets.ensures c.in_err-lints.ensures)

pub returns-in_err-package : goal.returns-in_err-package
returns-in_err-package g c =
    let p = err_from_is_err_and c.from_residual-in_err-package.result c.from_residual-in_err-package.ensures.1 in
    let h = rw c.as_ref.ensures.value at c.in_err-package.ensures in
    rw (p.1, p.2)
    (stops_at_package _ _ _ c.args.base.now (held c.args.manifest.now) _ _ _ _ c.in_ok-tables.ensures
    c.in_ok-targets.ensures c.in_ok-lints.ensures h)

pub returns : goal.returns
returns g c =
    let h = rw c.as_ref.ensures.value at c.in_ok-package.ensures in
    all_given _ _ _ c.args.base.now (held c.args.manifest.now) _ _ _ _ c.in_ok-tables.ensures
    c.in_ok-targets.ensures c.in_ok-lints.ensures h
