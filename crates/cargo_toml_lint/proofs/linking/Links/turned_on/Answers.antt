use Rattle.cargo_toml_lint.proofs.Cited.{Path, arith, false≢true, inserted, length, names_of, none_in, rules, sym, ◌∙◌, ◌≡◌}
use Rattle.cargo_toml_lint.proofs.{Leading.in_place, Placed.so_far_none, Placed.so_far_put, Placed.so_far_skip, linking.Links.turned_on.Goals.else-leads, linking.Links.turned_on.Goals.then-leads+in_ok-insert}
use Rattle.cargo_toml_lint.proofs.linking.Links.turned_on.Goals as goal

pub loop-other-init : goal.loop-other-init
loop-other-init c = so_far_none (names_of c.args.self.now) (Path c.args.self.now.reach.next.items c.in-Some.place) c.new-found.result c.new-found.ensures.empty

pub loop-other-preserved : goal.loop-other-preserved
loop-other-preserved c =
    let l = c.args.self.now in
    elim c.if-leads.branch [
      | then-leads+in_ok-insert w ↦ rw w.found-is (so_far_put (names_of l) (Path l.reach.next.items c.in-Some.place) c.loop-other.other c.loop-other.found w.insert.new.self w.name.result.now
          (sym w.name.ensures) (c.leads.ensures.0 w.if-leads.true)
          (inserted w.name.result.now c.loop-other.found w.insert.new.self w.in_ok-insert.ensures.updates) c.loop-other.invariant)
      | else-leads w ↦ rw w.found-is (so_far_skip (names_of l) (Path l.reach.next.items c.in-Some.place) c.loop-other.other c.loop-other.found
          (λ p. false≢true (sym w.if-leads.false ∙ c.leads.ensures.1 p)) c.loop-other.invariant)
    ]

pub returns-in_default : goal.returns-in_default
returns-in_default c = search (rules, false≢true, none_in)

pub returns : goal.returns
returns c =
    let at = rw c.as_slice.ensures.value at c.in-Some.ensures.found in
    let all : c.loop-other.other ≡ length c.args.self.now.names.items = omega arith in
    let led = rw all at c.loop-other.invariant in
    λ t are x. in_place t c.args.self.now are c.in-Some.place c.args.name.now at.0 at.1 x (led x)
