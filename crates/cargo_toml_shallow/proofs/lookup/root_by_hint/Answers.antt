use Rattle.std.proofs.lemmas.Result.{err_from_is_err_and}
use Rattle.cargo_toml_manifest.proofs.FileFaults.{unread_at}
use Rattle.cargo_toml_shallow.proofs.Roots.{as_ever, no_shallow_root}
use Rattle.cargo_toml_shallow.proofs.lookup.root_by_hint.Goals as goal

pub returns-in_err-workspace_of-in-Ok : goal.returns-in_err-workspace_of-in-Ok
returns-in_err-workspace_of-in-Ok g c =
    let p = err_from_is_err_and c.from_residual-in_err-workspace_of-in-Ok.result c.from_residual-in_err-workspace_of-in-Ok.ensures.1 in
    rw (p.1, p.2) (no_shallow_root _ c.in_err-workspace_of-in-Ok.ensures)

pub returns-in-Err : goal.returns-in-Err
returns-in-Err g c =
    as_ever _ (unread_at _ c.in-Err.fault c.from.result c.wrapped.result c.from.ensures c.wrapped.ensures)
