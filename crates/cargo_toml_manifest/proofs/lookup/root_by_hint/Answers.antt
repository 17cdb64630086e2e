use Rattle.std.proofs.lemmas.Result.{err_from_is_err_and}
use Rattle.cargo_toml_manifest.proofs.FileFaults.{no_root, unread_at}
use Rattle.cargo_toml_manifest.proofs.lookup.root_by_hint.Goals as goal

pub returns-in_err-workspace_of-in-Ok-clause-refused : goal.returns-in_err-workspace_of-in-Ok-clause-refused
returns-in_err-workspace_of-in-Ok-clause-refused g c =
    let p = err_from_is_err_and c.from_residual-in_err-workspace_of-in-Ok.result c.from_residual-in_err-workspace_of-in-Ok.ensures.1 in
    rw (p.1, p.2) (no_root _ c.in_err-workspace_of-in-Ok.ensures)

pub returns-in-Err-clause-refused : goal.returns-in-Err-clause-refused
returns-in-Err-clause-refused g c =
    unread_at _ c.in-Err.fault c.from.result c.wrapped.result c.from.ensures c.wrapped.ensures
