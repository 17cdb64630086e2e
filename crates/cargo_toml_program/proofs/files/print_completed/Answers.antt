use Rattle.cargo_toml_program.proofs.Cited.{Appends, IsSpelled, Keeps, List, None, Option, Some, err_from_is_err_and, inr, string_bytes, subst, sym, ℕ, ◌∙◌}
use Rattle.cargo_toml_program.proofs.files.print_completed.Goals as goal

-- what was appended still is, once what is known stays
still_appended : (old mid new : Option (List ℕ)) (bytes : List ℕ) → Appends old mid bytes → Keeps mid new → Appends old new bytes
still_appended None mid new bytes written kept = tt
still_appended (Some xs) None new bytes written kept = absurd written
still_appended (Some xs) (Some ys) None bytes written kept = absurd kept
still_appended (Some xs) (Some ys) (Some zs) bytes written kept = kept ∙ written

pub returns-in_err-manifest-clause-refused : goal.returns-in_err-manifest-clause-refused
returns-in_err-manifest-clause-refused g c =
    let p = err_from_is_err_and c.from_residual.result c.from_residual.ensures.1 in
    rw (p.1, p.2) (inr c.in_err-manifest.ensures.refused)

pub returns-in_err-lines-clause-refused : goal.returns-in_err-lines-clause-refused
returns-in_err-lines-clause-refused g c =
    let p = err_from_is_err_and c.from_residual-in_err-lines.result c.from_residual-in_err-lines.ensures.1 in
    let spelled = subst IsSpelled (sym c.deref_mut.ensures.value) c.in_ok-manifest.ensures.spelled in
    rw (p.1, p.2) (inr (c.in_err-lines.ensures.refused spelled))

pub returns-clause-printed : goal.returns-clause-printed
returns-clause-printed g c =
    let spelled = subst IsSpelled (sym c.deref_mut.ensures.value) c.in_ok-manifest.ensures.spelled in
    let written = rw c.as_bytes.ensures.value at c.in_ok-write_all.ensures.bytes in
    (string_bytes c.in_ok-lines.lines, c.in_ok-lines.ensures.lines spelled, still_appended _ _ _ _ written c.in_ok-flush.ensures.bytes)
