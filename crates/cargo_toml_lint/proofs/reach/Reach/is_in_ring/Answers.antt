use Rattle.cargo_toml_lint.proofs.Cited.{Among, edge, false≢true, get_or, inr, refl, rules, subst, sym, take_all, ◌∙◌}
use Rattle.cargo_toml_lint.proofs.{Rows.among_more, Searching.first_step, Searching.target_at, reach.Reach.is_in_ring.Goals.else-x-own-via-else-x-own}
use Rattle.cargo_toml_lint.proofs.reach.Reach.is_in_ring.Goals as goal

pub leads-requires-clause-from : goal.leads-requires-clause-from
leads-requires-clause-from c = c.requires.finished.whole.inside c.args.own _
    (target_at c.args.self.now c.args.own c.loop-x.x-index c.targets-targets.result.now c.targets-targets.ensures c.loop-x-test.true)

pub returns-then-leads : goal.returns-then-leads
returns-then-leads c =
    let lead = target_at c.args.self.now c.args.own c.loop-x.x-index c.targets-targets.result.now c.targets-targets.ensures c.loop-x-test.true in
    (λ _. (get_or c.targets-targets.result.now c.loop-x.x-index 0, c.if-x-own.true, inr (tt, edge lead), c.leads.ensures.0 c.if-leads.true), λ _. refl)

pub loop-x-preserved : goal.loop-x-preserved
loop-x-preserved c = search (rules, among_more, false≢true, else-x-own-via-else-x-own)

pub returns : goal.returns
returns c = (
  λ e. absurd (false≢true e),
  λ ring.
      let s = first_step c.args.self.now.next.items c.args.own ring in
      absurd (c.loop-x.invariant s.0 (subst (λ t. Among t s.0) (sym (take_all c.loop-x.x-index c.targets-targets.result.now c.loop-x-test.false ∙ c.targets-targets.ensures)) s.1) s.2 s.3),
)
