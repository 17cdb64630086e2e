use Rattle.cargo_toml_audit.proofs.Cited.{err_from_is_err_and, from_input, inl, inr}
use Rattle.cargo_toml_audit.proofs.auditing.above.absolute.Goals as goal

pub returns-in_err-metadata : goal.returns-in_err-metadata
returns-in_err-metadata g c =
    let p = err_from_is_err_and c.from_residual.result c.from_residual.ensures.1 in
    rw p.1 (elim (from_input _ p.0 p.2) [ inl memory ↦ inl memory | inr input ↦ inr (inl input) ])

pub returns-then-not-is_dir : goal.returns-then-not-is_dir
returns-then-not-is_dir g c = elim (from_input _ _ c.from-then-not-is_dir.ensures) [ inl memory ↦ inl memory | inr input ↦ inr (inl input) ]

pub returns-in_err-here : goal.returns-in_err-here
returns-in_err-here g c =
    let p = err_from_is_err_and c.from_residual-in_err-here.result c.from_residual-in_err-here.ensures.1 in
    rw p.1 (elim (from_input _ p.0 p.2) [ inl memory ↦ inl memory | inr input ↦ inr (inl input) ])
