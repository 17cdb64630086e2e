use Rattle.std.proofs.Common.{rules, ◌≡◌, ◌++◌, ◌∷◌, [], List, ℕ, sym, subst, ◌∙◌}
use Rattle.{std.proofs.lemmas.Bool.not-true, cargo_toml_resolve.specs.Numbers.FindsNamed, cargo_toml_resolve.proofs.Steps.is_new}
use Rattle.cargo_toml_resolve.proofs.walk.meet.Goals as goal

pub returns-in_ok-push : goal.returns-in_ok-push
returns-in_ok-push c =
    let pushed : c.push.new.self.items ≡ c.args.found.now.items ++ c.args.x ∷ [] = search rules in
    subst (λ (f : List ℕ). FindsNamed (λ y. y ≡ c.args.x) c.args.found.now.items f c.args.met.now c.mark.new.self) (sym pushed)
    (is_new c.args.x c.args.found.now.items c.args.met.now c.requires.marks c.requires.inside (not-true _ (sym c.mark.ensures.is_new ∙ c.if-mark.true)) c.mark.new.self c.mark.ensures.marked)
