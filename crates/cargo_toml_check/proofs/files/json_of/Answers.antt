use Rattle.cargo_toml_check.proofs.Cited.{IsShownAsJson, IsUnshown, err_from_is_err_and, inl, manifest_meaning, view}
use Rattle.cargo_toml_check.proofs.Completed.{refused_of, shown_of}
use Rattle.cargo_toml_check.proofs.files.json_of.Goals as goal

pub returns-in_err-held-clause-refused : goal.returns-in_err-held-clause-refused
returns-in_err-held-clause-refused g c =
    let p = err_from_is_err_and c.from_residual.result c.from_residual.ensures.1 in
    rw (p.1, p.2) (inl c.in_err-held.ensures.refused)

pub returns-clause-shown : goal.returns-clause-shown
returns-clause-shown g c = shown_of _ _ _ c.in_ok-held.ensures.completed c.deref.ensures _ (λ m. IsShownAsJson (manifest_meaning view m)) c.manifest_json.ensures.shown

pub returns-clause-refused : goal.returns-clause-refused
returns-clause-refused g c = refused_of _ _ _ c.in_ok-held.ensures.completed c.deref.ensures _ (λ m. IsUnshown (manifest_meaning view m)) c.manifest_json.ensures.refused
