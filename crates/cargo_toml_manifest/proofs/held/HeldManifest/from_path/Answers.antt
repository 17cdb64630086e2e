use Rattle.cargo_toml_manifest.proofs.Cited.{IfErr-weaker, IfOk-weaker, IfSome, IsFilled, IsReadAndCompleted, Manifest, Value, any_tree, false, held, inl, manifest_meaning, manifest_reads, needs, subst, sym, view, ◌≡◌}
use Rattle.cargo_toml_manifest.proofs.held.HeldManifest.from_path.Goals as goal

pub returns-in-Ok-clause-given : goal.returns-in-Ok-clause-given
returns-in-Ok-clause-given g c =
    IfOk-weaker c.new.result _ _
    (λ h same. subst (λ (m : Manifest Value). IsReadAndCompleted (manifest_meaning view) (manifest_reads any_tree) m) (sym same) c.in-Ok.ensures.given)
    c.new.ensures.same

pub returns-in-Ok-clause-filled : goal.returns-in-Ok-clause-filled
returns-in-Ok-clause-filled g c =
    IfOk-weaker c.new.result _ _
    (λ h same. subst (λ (m : Manifest Value). IfSome m.«package» IsFilled) (sym same) c.in-Ok.ensures.filled)
    c.new.ensures.same

pub returns-in-Ok-clause-refused : goal.returns-in-Ok-clause-refused
returns-in-Ok-clause-refused g c = IfErr-weaker c.new.result _ _ (λ e memory. inl memory) c.new.ensures.refused

pub returns-in-Ok-clause-needs : goal.returns-in-Ok-clause-needs
returns-in-Ok-clause-needs g c =
    IfOk-weaker c.new.result _ _
    (λ h same. subst (λ (m : Manifest Value). needs (held m) ≡ false) (sym same) c.in-Ok.ensures.needs)
    c.new.ensures.same
