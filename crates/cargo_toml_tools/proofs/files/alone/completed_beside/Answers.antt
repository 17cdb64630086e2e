use Rattle.cargo_toml_tools.proofs.Cited.{err_from_is_err_and, inr}
use Rattle.cargo_toml_tools.proofs.files.alone.completed_beside.Goals as goal

pub returns-clause-completed : goal.returns-clause-completed
returns-clause-completed g c = record {
  read = c.deref_mut.result.now;
  written = rw c.deref_mut.ensures.value c.in_ok-held.ensures.read;
  made = c.in_ok-complete_beside.ensures.completed;
}

pub returns-in_err-complete_beside-clause-refused : goal.returns-in_err-complete_beside-clause-refused
returns-in_err-complete_beside-clause-refused g c =
    let p = err_from_is_err_and c.from_residual-in_err-complete_beside.result c.from_residual-in_err-complete_beside.ensures.1 in
    rw (p.1, p.2)
    (inr (c.deref_mut.result.now, (rw c.deref_mut.ensures.value c.in_ok-held.ensures.read, c.in_err-complete_beside.ensures.refused)))
