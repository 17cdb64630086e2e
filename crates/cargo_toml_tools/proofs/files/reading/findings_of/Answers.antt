use Rattle.cargo_toml_tools.proofs.Cited.{err_from_is_err_and, from_input}
use Rattle.cargo_toml_tools.proofs.files.reading.findings_of.Goals as goal

pub returns-in_err-state-clause-refused : goal.returns-in_err-state-clause-refused
returns-in_err-state-clause-refused g c =
    let p = err_from_is_err_and c.from_residual.result c.from_residual.ensures.1 in
    rw p.1 (from_input _ p.0 p.2)
