use Rattle.cargo_toml_manifest.proofs.Cited.{IfErr-weaker, IfOk-weaker, err_from_is_err_and, from_input, inl, inr}
use Rattle.cargo_toml_manifest.proofs.manifest.Manifest.from_path_with_metadata.Goals as goal

pub returns-in_err-text-clause-refused : goal.returns-in_err-text-clause-refused
returns-in_err-text-clause-refused g c =
    let p = err_from_is_err_and c.from_residual.result c.from_residual.ensures.1 in
    rw p.1 (elim (from_input _ p.0 p.2) [ inl memory ↦ inl memory | inr input ↦ inr (inl input) ])

pub returns-clause-given : goal.returns-clause-given
returns-clause-given g c =
    IfOk-weaker c.completed_of.result _ _ (λ new h. (c.as_str.result.now, (c.as_str.utf8, h))) c.completed_of.ensures.given

pub returns-clause-refused : goal.returns-clause-refused
returns-clause-refused g c =
    IfErr-weaker c.completed_of.result _ _ (λ e h. inr (inr (c.as_str.result.now, (c.as_str.utf8, h)))) c.completed_of.ensures.refused
