use Rattle.std.proofs.{Common.inr, lemmas.Result.err_from_is_err_and}
use Rattle.cargo_toml_manifest.proofs.FileFaults.{no_manifest, no_table}
use Rattle.cargo_toml_manifest.proofs.lookup.workspace_of.Goals as goal

pub returns-in_err-manifest : goal.returns-in_err-manifest
returns-in_err-manifest c =
    let p = err_from_is_err_and c.from_residual.result c.from_residual.ensures.1 in
    rw (p.1, p.2) (no_manifest c.args.bytes.now _ c.in_err-manifest.ensures.refused)

pub returns-then-is_none : goal.returns-then-is_none
returns-then-is_none c = inr (no_table c.args.path.now c.in_ok-fault.fault c.in_ok-fault.ensures.ok)
