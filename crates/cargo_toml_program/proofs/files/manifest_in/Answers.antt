use Rattle.cargo_toml_program.proofs.Cited.{err_from_is_err_and, from_input, inl, inr}
use Rattle.cargo_toml_program.proofs.files.manifest_in.Goals as goal

pub returns-in_err-text-clause-refused : goal.returns-in_err-text-clause-refused
returns-in_err-text-clause-refused g c =
    let p = err_from_is_err_and c.from_residual.result c.from_residual.ensures.1 in
    rw p.1 (elim (from_input _ p.0 p.2) [ inl memory ↦ inl memory | inr input ↦ inr (inl input) ])
