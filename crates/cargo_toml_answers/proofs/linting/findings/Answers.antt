use Rattle.std.proofs.Common.{inl, string_bytes, ◌≡◌}
use Rattle.std.proofs.lemmas.Result.{err_from_is_err_and}
use Rattle.cargo_toml.specs.Error.{Memory}
use Rattle.cargo_toml_answers.specs.Answered.{AreTold}
use Rattle.cargo_toml_answers.proofs.Reading.{read_err, read_ok}
use Rattle.cargo_toml_answers.proofs.linting.findings.Goals as goal

pub returns-in_err-held-clause-refused : goal.returns-in_err-held-clause-refused
returns-in_err-held-clause-refused c =
    let p = err_from_is_err_and c.from_residual.result c.from_residual.ensures.1 in
    rw (p.1, p.2) (inl c.in_err-held.ensures.refused)

pub returns-clause-told : goal.returns-clause-told
returns-clause-told c = read_ok c.args.text.now c.in_ok-held.held.manifest.value _ c.in_ok-held.ensures.read c.deref.ensures _
    (λ m json. AreTold (string_bytes json)) c.told.ensures.told

pub returns-clause-refused : goal.returns-clause-refused
returns-clause-refused c = read_err c.args.text.now c.in_ok-held.held.manifest.value _ c.in_ok-held.ensures.read c.deref.ensures _
    (λ m e. e ≡ Memory) c.told.ensures.refused
