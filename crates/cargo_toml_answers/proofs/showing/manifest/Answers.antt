use Rattle.std.proofs.Common.{IfErr, IfOk, inl, inr, string_bytes, subst}
use Rattle.std.proofs.lemmas.Result.{err_from_is_err_and}
use Rattle.toml.specs.View.{view}
use Rattle.cargo_toml.specs.Manifests.{manifest_meaning}
use Rattle.cargo_toml_check.specs.Shown.{IsUnshown}
use Rattle.cargo_toml_answers.specs.Answered.{IsRefusedFor, IsShownIn, Reads}
use Rattle.cargo_toml_answers.specs.Refused.{IsRefusalFor}
use Rattle.cargo_toml_answers.proofs.Answering.{answered_err, answered_ok, refusal_weaker}
use Rattle.cargo_toml_answers.proofs.showing.manifest.Goals as goal

pub returns-in_err-text-clause-refused : goal.returns-in_err-text-clause-refused
returns-in_err-text-clause-refused c =
    let p = err_from_is_err_and c.from_residual.result c.from_residual.ensures.1 in
    rw (p.1, p.2) (refusal_weaker _ _ _ _ _ (λ b. b) (λ e why. inl why) c.in_err-text.ensures.refused)

pub returns-clause-shown : goal.returns-clause-shown
returns-clause-shown c =
    subst (λ t. IfOk c.answered.result (λ json. Reads t (λ m. IsShownIn (manifest_meaning view m) (string_bytes json)))) c.in_ok-text.ensures.same
    (answered_ok _ _ _ c.answered.ensures c.manifest_of.ensures.shown)

pub returns-clause-refused : goal.returns-clause-refused
returns-clause-refused c =
    subst (λ t. IfErr c.answered.result (IsRefusalFor ⊥ (IsRefusedFor t (λ m. IsUnshown (manifest_meaning view m))))) c.in_ok-text.ensures.same
    (answered_err _ _ _ _ _ (λ e why. inr why) c.answered.ensures c.manifest_of.ensures.refused)
