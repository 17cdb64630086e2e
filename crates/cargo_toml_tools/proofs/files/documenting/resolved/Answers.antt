use Rattle.cargo_toml_tools.proofs.Cited.{err_from_is_err_and, from_input, IfErr-weaker, inl}
use Rattle.cargo_toml_tools.proofs.files.documenting.resolved.Goals as goal

pub returns-in_err-state-clause-refused : goal.returns-in_err-state-clause-refused
returns-in_err-state-clause-refused g c =
    let p = err_from_is_err_and c.from_residual.result c.from_residual.ensures.1 in
    rw p.1 (from_input _ p.0 p.2)

pub returns-clause-whole : goal.returns-clause-whole
returns-clause-whole g c = c.resolve_whole.ensures.resolved

pub returns-clause-refused : goal.returns-clause-refused
returns-clause-refused g c = IfErr-weaker c.resolve_whole.result _ _ (λ e memory. inl memory) c.resolve_whole.ensures.refused
