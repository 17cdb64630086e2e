use Rattle.std.proofs.Common.{inl, string_bytes}
use Rattle.std.proofs.lemmas.Result.{err_from_is_err_and}
use Rattle.toml.specs.View.{view}
use Rattle.cargo_toml.specs.Manifests.{manifest_meaning}
use Rattle.cargo_toml_check.specs.Shown.{IsUnshown}
use Rattle.cargo_toml_answers.specs.Answered.{IsShownIn}
use Rattle.cargo_toml_answers.proofs.Reading.{read_err, read_ok}
use Rattle.cargo_toml_answers.proofs.showing.manifest_of.Goals as goal

pub returns-in_err-held-clause-refused : goal.returns-in_err-held-clause-refused
returns-in_err-held-clause-refused c =
    let p = err_from_is_err_and c.from_residual.result c.from_residual.ensures.1 in
    rw (p.1, p.2) (inl c.in_err-held.ensures.refused)

pub returns-clause-shown : goal.returns-clause-shown
returns-clause-shown c = read_ok c.args.text.now c.in_ok-held.held.manifest.value _ c.in_ok-held.ensures.read c.deref.ensures _
    (λ m json. IsShownIn (manifest_meaning view m) (string_bytes json)) c.shown.ensures.shown

pub returns-clause-refused : goal.returns-clause-refused
returns-clause-refused c = read_err c.args.text.now c.in_ok-held.held.manifest.value _ c.in_ok-held.ensures.read c.deref.ensures _
    (λ m. IsUnshown (manifest_meaning view m)) c.shown.ensures.refused
