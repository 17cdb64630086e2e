use Rattle.cargo_toml_tools.proofs.Cited.{err_from_is_err_and, inr}
use Rattle.cargo_toml_tools.proofs.files.reading.completed_of.Goals as goal

pub returns-clause-completed : goal.returns-clause-completed
returns-clause-completed g c = record {
  read = c.deref_mut.result.now;
  written = rw c.deref_mut.ensures.value c.in_ok-held.ensures.read;
  completed = c.in_ok-complete_from_path.ensures.completed;
}

pub returns-in_err-complete_from_path-clause-refused : goal.returns-in_err-complete_from_path-clause-refused
returns-in_err-complete_from_path-clause-refused g c =
    let p = err_from_is_err_and c.from_residual-in_err-complete_from_path.result c.from_residual-in_err-complete_from_path.ensures.1 in
    rw (p.1, p.2)
    (inr (c.deref_mut.result.now, (rw c.deref_mut.ensures.value c.in_ok-held.ensures.read, c.in_err-complete_from_path.ensures.refused)))
