use Rattle.std.proofs.Common.{ap, inl, inr, string_bytes, subst, ◌∙◌}
use Rattle.std.proofs.lemmas.Result.{err_from_is_err_and}
use Rattle.cargo_toml_answers.specs.Answered.{IsIndexed, IsUnindexed, Reads, TellsOfFault, TellsOfIndex, checksum_of, wanted_with}
use Rattle.cargo_toml_answers.proofs.Answering.{weaker}
use Rattle.cargo_toml_answers.proofs.indexing.index.Goals as goal

pub returns-in_err-text-clause-refused : goal.returns-in_err-text-clause-refused
returns-in_err-text-clause-refused c =
    let p = err_from_is_err_and c.from_residual.result c.from_residual.ensures.1 in
    rw (p.1, p.2) (weaker ⊥ _ _ (TellsOfIndex c.args.text.now c.args.checksum.now) _ (λ b. absurd b) (λ json told. inl told) c.in_err-text.ensures.refused)

pub returns-in_err-checksum-clause-refused : goal.returns-in_err-checksum-clause-refused
returns-in_err-checksum-clause-refused c =
    let p = err_from_is_err_and c.from_residual-in_err-checksum.result c.from_residual-in_err-checksum.ensures.1 in
    rw (p.1, p.2) (weaker _ _ (λ _. ⊥) (TellsOfIndex c.args.text.now c.args.checksum.now) _ (λ bad. inl bad) (λ json none. absurd none) c.in_err-checksum.ensures.refused)

pub returns-in-Ok-clause-indexed : goal.returns-in-Ok-clause-indexed
returns-in-Ok-clause-indexed c =
    let sum = c.given.ensures ∙ ap checksum_of c.in_ok-checksum.ensures.same in
    subst (λ t. Reads t (λ m. IsIndexed t (wanted_with (checksum_of c.args.checksum.now)) m (string_bytes c.in-Ok.json))) c.in_ok-text.ensures.same
    (subst (λ w. Reads c.in_ok-text.text.now (λ m. IsIndexed c.in_ok-text.text.now (wanted_with w) m (string_bytes c.in-Ok.json))) sum c.in-Ok.ensures.indexed)

pub returns-in-Err-clause-refused : goal.returns-in-Err-clause-refused
returns-in-Err-clause-refused c =
    let sum = c.given.ensures ∙ ap checksum_of c.in_ok-checksum.ensures.same in
    let unindexed = subst (λ t. IsUnindexed t (wanted_with (checksum_of c.args.checksum.now)) c.in-Err.fault) c.in_ok-text.ensures.same
    (subst (λ w. IsUnindexed c.in_ok-text.text.now (wanted_with w) c.in-Err.fault) sum c.in-Err.ensures.refused) in
    weaker ⊥ _ (TellsOfFault c.in-Err.fault) (TellsOfIndex c.args.text.now c.args.checksum.now) _ (λ b. absurd b) (λ json told. inr (c.in-Err.fault, (unindexed, told))) c.refuse_fault.ensures
