use Rattle.cargo_toml_program.proofs.Cited.{IfErr-weaker, IfOk-weaker, IsFromSlice, Ok, inl, subst, sym}
use Rattle.cargo_toml_program.proofs.printing.text_of.Goals as goal

pub returns-clause-printed : goal.returns-clause-printed
returns-clause-printed c =
    let spelled = subst (λ m. IsFromSlice c.args.bytes.now (Ok m)) (sym c.deref.ensures) c.in_ok-manifest.ensures.read in
    IfOk-weaker c.lines_of.result _ _ (λ t printed. (c.deref.result.now, c.in_ok-manifest.ensures.shallow, spelled, printed)) c.lines_of.ensures.printed

pub returns-clause-refused : goal.returns-clause-refused
returns-clause-refused c = IfErr-weaker c.lines_of.result _ _ (λ e memory. inl memory) c.lines_of.ensures.refused
