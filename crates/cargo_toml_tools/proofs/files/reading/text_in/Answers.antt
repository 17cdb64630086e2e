use Rattle.cargo_toml_tools.proofs.Cited.{err_from_is_err_and, from_input}
use Rattle.cargo_toml_tools.proofs.files.reading.text_in.Goals as goal

pub returns-in_err-read_to_string : goal.returns-in_err-read_to_string
returns-in_err-read_to_string g c =
    let p = err_from_is_err_and c.from_residual.result c.from_residual.ensures.1 in
    rw p.1 (from_input _ p.0 p.2)
