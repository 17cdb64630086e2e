use Rattle.cargo_toml_check.proofs.Cited.{IsShown, IsUnshown, err_from_is_err_and, inl, manifest_meaning, view}
use Rattle.cargo_toml_check.proofs.Completed.{refused_of, shown_of}
use Rattle.cargo_toml_check.proofs.files.toml_of.Goals as goal

pub returns-in_err-completed-clause-refused : goal.returns-in_err-completed-clause-refused
returns-in_err-completed-clause-refused g c =
    let p = err_from_is_err_and c.from_residual.result c.from_residual.ensures.1 in
    rw (p.1, p.2) (inl c.in_err-completed.ensures.refused)

pub returns-clause-shown : goal.returns-clause-shown
returns-clause-shown g c = shown_of _ _ _ c.in_ok-completed.ensures.completed c.deref.ensures _ (λ m. IsShown (manifest_meaning view m)) c.manifest_toml.ensures.shown

pub returns-clause-refused : goal.returns-clause-refused
returns-clause-refused g c = refused_of _ _ _ c.in_ok-completed.ensures.completed c.deref.ensures _ (λ m. IsUnshown (manifest_meaning view m)) c.manifest_toml.ensures.refused
