use Rattle.std.proofs.{Common.inr, lemmas.Result.err_from_is_err_and}
use Rattle.cargo_toml_manifest.proofs.PathFaults.{some_from}
use Rattle.cargo_toml_manifest.proofs.from_path.completed_of.Goals as goal

pub returns-clause-given : goal.returns-clause-given
returns-clause-given g c =
    (c.in_ok-manifest.manifest, (c.in_ok-manifest.ensures, c.in_ok-complete_from_path.ensures.completed.given))

pub returns-clause-needs : goal.returns-clause-needs
returns-clause-needs g c = c.in_ok-complete_from_path.ensures.completed.needs_nothing

pub returns-clause-named : goal.returns-clause-named
returns-clause-named g c = some_from _ c.in_ok-complete_from_path.ensures.bad_path

pub returns-clause-filled : goal.returns-clause-filled
returns-clause-filled g c = c.in_ok-complete_from_path.ensures.completed.filled

pub returns-in_err-complete_from_path-clause-refused : goal.returns-in_err-complete_from_path-clause-refused
returns-in_err-complete_from_path-clause-refused g c =
    let p = err_from_is_err_and c.from_residual-in_err-complete_from_path.result c.from_residual-in_err-complete_from_path.ensures.1 in
    rw (p.1, p.2) (inr (c.in_ok-manifest.manifest, (c.in_ok-manifest.ensures, c.in_err-complete_from_path.ensures.refused)))
