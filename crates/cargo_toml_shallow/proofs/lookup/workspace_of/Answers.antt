use Rattle.std.proofs.{Common.inr, lemmas.Result.err_from_is_err_and}
use Rattle.cargo_toml_manifest.proofs.FileFaults.{no_manifest, no_table}
use Rattle.cargo_toml_shallow.proofs.Roots.{no_workspace}
use Rattle.cargo_toml_shallow.proofs.lookup.workspace_of.Goals as goal

pub returns-in_err-manifest : goal.returns-in_err-manifest
returns-in_err-manifest c =
    let left = c.from_residual-in_err-manifest in
    let p = err_from_is_err_and left.result left.ensures.1 in
    rw (p.1, p.2) (no_workspace _ (no_manifest c.args.bytes.now _ c.in_err-manifest.ensures))

pub returns-then-is_none : goal.returns-then-is_none
returns-then-is_none c = inr (inr (no_table c.args.path.now c.in_ok-fault.fault c.in_ok-fault.ensures.ok))
