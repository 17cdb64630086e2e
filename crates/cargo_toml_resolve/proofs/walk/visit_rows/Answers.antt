use Rattle.cargo_toml_resolve.proofs.Cited.{Among, FindsNamed, IsWanted, Leads, [], ap, arith, false, get_or, rules, subst, take_all, ℕ, ◌∙◌}
use Rattle.cargo_toml_resolve.proofs.Steps.{among_at, item_is, one_more_list, begin_list}
use Rattle.cargo_toml_resolve.proofs.walk.visit_rows.Goals as goal

pub loop-b-init : goal.loop-b-init
loop-b-init c = begin_list c.args.labels.now c.args.flags.now false c.args.passed.now c.args.found.now.items c.args.met.now c.requires.marks

pub row-requires : goal.row-requires
row-requires c = grind (arith, item_is, among_at c.args.passed.now c.loop-b.b-index c.loop-b-test.true, c.requires.passed)

pub loop-b-preserved : goal.loop-b-preserved
loop-b-preserved c =
    let read = c.row.ensures ∙ ap (λ b. get_or c.args.labels.now b []) (item_is c.args.passed.now c.loop-b.b-index _ c.loop-b-test.true c.b-item.is) in
    one_more_list c.args.labels.now c.args.flags.now false c.args.passed.now c.loop-b.b-index c.loop-b-test.true c.args.found.now.items c.loop-b.found.items c.visit.new.found.items c.args.met.now c.loop-b.met c.visit.new.met c.loop-b.invariant
    (subst (λ t. FindsNamed (λ y. Among t y × IsWanted c.args.flags.now false y) c.loop-b.found.items c.visit.new.found.items c.loop-b.met c.visit.new.met) read c.in_ok-visit.ensures)

pub returns : goal.returns
returns c = subst (λ ps. FindsNamed (λ x. ((b : ℕ) × Among ps b × Leads c.args.labels.now b x) × IsWanted c.args.flags.now false x) c.args.found.now.items c.loop-b.found.items c.args.met.now c.loop-b.met)
    (take_all c.loop-b.b-index c.args.passed.now (search rules)) c.loop-b.invariant
