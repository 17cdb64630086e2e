use Rattle.cargo_toml_audit.proofs.Cited.{arith, common_steps, inl, inr, or_left, or_right, refl, sym, ◌∙◌}
use Rattle.cargo_toml_audit.proofs.auditing.walk.visit.Goals as goal

pub returns-then-contains-clause-visited : goal.returns-then-contains-clause-visited
returns-then-contains-clause-visited g c =
    inl (or_left _ _ (sym c.contains.ensures ∙ c.if-contains.true), (refl, refl))

pub returns-then-branch-clause-visited : goal.returns-then-branch-clause-visited
returns-then-branch-clause-visited g c =
    inl (or_right _ _ (sym c.in_ok-excludes.ensures ∙ c.if-branch.true), (refl, refl))

pub returns-clause-visited : goal.returns-clause-visited
returns-clause-visited g c =
    let a = c.in_ok-is_member.ensures.added in
    inr (record {
      content = a.content;
      fresh = grind (arith, c.contains.ensures, c.in_ok-excludes.ensures, c.if-contains.false, c.if-branch.false);
      is = a.is;
      takes = a.takes;
      seen = c.in_ok-note-2.ensures;
      members = λ t. grind (arith, c.in_ok-note.ensures t, a.member);
      waiting = grind (arith, common_steps, c.in_ok-append.ensures.items, a.needs);
    })
