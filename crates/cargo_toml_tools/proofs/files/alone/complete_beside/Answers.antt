use Rattle.cargo_toml_tools.proofs.Cited.{IfErr, IfErr-weaker, IsRefusedFor, MayLose, ap, false, held, left_of, needed, None, option_map, subst, sym, ◌∙◌, ◌≡◌}
use Rattle.cargo_toml_tools.proofs.LeftNone.{refused_own}
use Rattle.cargo_toml_tools.proofs.files.alone.complete_beside.Goals as goal

pub returns-clause-refused : goal.returns-clause-refused
returns-clause-refused g c =
    let m = c.args.manifest.now in
    let names = g.Fs.AbstractFilesystem.may_refuse c.args.fs in
    let none : needed (held m) ≡ None = sym c.needed.ensures ∙ ap (option_map left_of) c.in_default.is in
    subst (λ n. IfErr c.complete_from_abstract_filesystem.result (IsRefusedFor n m names)) (sym none)
    (IfErr-weaker c.complete_from_abstract_filesystem.result _ (IsRefusedFor None m names)
    (λ e. refused_own (held m) (MayLose false (λ _ _. ⊥)) (λ _ _. ⊥) names e none)
    c.complete_from_abstract_filesystem.ensures.wrapped)
