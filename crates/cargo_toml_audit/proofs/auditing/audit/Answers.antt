use Rattle.cargo_toml_audit.proofs.Cited.{MatchResult-weaker, err_from_is_err_and, inl, inr}
use Rattle.cargo_toml_audit.proofs.auditing.audit.Goals as goal

pub returns-in_err-start-clause-refused : goal.returns-in_err-start-clause-refused
returns-in_err-start-clause-refused g c =
    let left = c.from_residual in
    let p = err_from_is_err_and left.result left.ensures.1 in
    rw (p.1, p.2) (inl c.in_err-start.ensures)

pub returns-in_err-workspace-clause-refused : goal.returns-in_err-workspace-clause-refused
returns-in_err-workspace-clause-refused g c =
    let left = c.from_residual-in_err-workspace in
    let p = err_from_is_err_and left.result left.ensures.1 in
    rw (p.1, p.2) (inl c.in_err-workspace.ensures.refused)

pub returns-clause-refused : goal.returns-clause-refused
returns-clause-refused g c =
    MatchResult-weaker c.report_at.result c.report_at.ensures.refused (λ report h. h)
    (λ fault h. elim h [ inl unread ↦ inl unread | inr other ↦ inr (elim other [ inl none ↦ inl none | inr many ↦ inr many.0 ]) ])
