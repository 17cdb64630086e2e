use Rattle.cargo_toml_resolve.proofs.Cited.{Among, FindsNamed, IsWanted, Leads, List, [], ap, arith, false, length, length-replicate, rules, subst, true, ℕ, ◌<◌, ◌∙◌}
use Rattle.cargo_toml_resolve.proofs.Steps.{begins, goes_on, ends, next_below}
use Rattle.cargo_toml_resolve.proofs.walk.passing.Goals as goal

pub loop-next-init : goal.loop-next-init
loop-next-init c =
    let v : FindsNamed (λ y. Leads c.args.edges.now c.args.start y × IsWanted c.args.is_removed.now true y) [] c.visit.new.found.items c.clear-2.new.self c.visit.new.met =
    subst (λ (t : List ℕ). FindsNamed (λ y. Among t y × IsWanted c.args.is_removed.now true y) [] c.visit.new.found.items c.clear-2.new.self c.visit.new.met) c.row.ensures
    (subst (λ (f : List ℕ). FindsNamed (λ y. Among c.row.result.now y × IsWanted c.args.is_removed.now true y) f c.visit.new.found.items c.clear-2.new.self c.visit.new.met) c.clear.ensures.items c.in_ok-visit.ensures) in
    record {
      walks = begins c.args.edges.now c.args.is_removed.now c.args.start c.visit.new.found.items c.clear-2.new.self c.visit.new.met v;
      len = v.len ∙ ap length c.clear-2.ensures ∙ length-replicate (length c.args.met.now) false;
      within = omega arith;
    }

pub row-requires-in-loop-next : goal.row-requires-in-loop-next
row-requires-in-loop-next c =
    next_below c.args.edges.now c.args.is_removed.now c.args.start c.loop-next.next c.loop-next.found.items c.loop-next.met c.loop-next.invariant.walks c.requires.whole (search rules) c.index-at.result.now c.index-at.ensures

pub loop-next-preserved : goal.loop-next-preserved
loop-next-preserved c =
    let v : FindsNamed (λ y. Leads c.args.edges.now c.index-at.result.now y × IsWanted c.args.is_removed.now true y) c.loop-next.found.items c.visit-in-loop-next.new.found.items c.loop-next.met c.visit-in-loop-next.new.met =
    subst (λ (t : List ℕ). FindsNamed (λ y. Among t y × IsWanted c.args.is_removed.now true y) c.loop-next.found.items c.visit-in-loop-next.new.found.items c.loop-next.met c.visit-in-loop-next.new.met) c.row-in-loop-next.ensures c.in_ok-visit-2.ensures in
    let below : c.loop-next.next < length c.loop-next.found.items = search rules in
    record {
      walks = goes_on c.args.edges.now c.args.is_removed.now c.args.start c.loop-next.next c.loop-next.found.items c.visit-in-loop-next.new.found.items c.loop-next.met c.visit-in-loop-next.new.met below c.loop-next.invariant.walks c.index-at.result.now c.index-at.ensures v;
      len = v.len ∙ c.loop-next.invariant.len;
      within = omega (arith, below, v.longer);
    }

pub returns-clause-passed : goal.returns-clause-passed
returns-clause-passed c = ends c.args.edges.now c.args.is_removed.now c.args.start c.loop-next.next c.loop-next.found.items c.loop-next.met (search rules) c.loop-next.invariant.walks
