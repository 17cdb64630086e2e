use Rattle.std.proofs.Common.{◌≡◌, [], ◌∷◌, ◌∙◌, rules, subst, sym}
use Rattle.std.proofs.lemmas.List.{nil_from_length}
use Rattle.cargo_toml_parts.proofs.Readers.{ItemsSoFar, items_start, items_step, items_end, items_err}
use Rattle.cargo_toml_parts.proofs.read.owned_items.Goals as goal

pub loop-item-init : goal.loop-item-init
loop-item-init g c =
    let whole : c.into_iter-item-iterator.result.rest.items ≡ c.args.items.items = search rules in
    rw (c.in_ok-all.ensures.items, whole) (items_start _ _ g.T.Read.meaning g.T.Read.reads g.T.Read.refuses _)

pub loop-item-preserved : goal.loop-item-preserved
loop-item-preserved g c =
    let more : c.loop-item.item-iterator.rest.items ≡ c.in-Some.item ∷ c.next.new.self.rest.items = search rules in
    let so_far = subst (λ rest. ItemsSoFar _ _ g.T.Read.meaning g.T.Read.reads g.T.Read.refuses c.args.items.items rest c.loop-item.all.items) more c.loop-item.invariant in
    items_step _ _ g.T.Read.meaning g.T.Read.reads g.T.Read.refuses _ _ c.loop-item.all.items _ c.in-Some.item c.in_ok-read_owned.field-0 so_far c.in_ok-read_owned.ensures.reads c.in_ok-push.ensures.items

pub returns-in_err-read_owned : goal.returns-in_err-read_owned
returns-in_err-read_owned g c =
    let more : c.loop-item.item-iterator.rest.items ≡ c.in-Some.item ∷ c.next.new.self.rest.items = search rules in
    let so_far = subst (λ rest. ItemsSoFar _ _ g.T.Read.meaning g.T.Read.reads g.T.Read.refuses c.args.items.items rest c.loop-item.all.items) more c.loop-item.invariant in
    let bad = items_err _ _ g.T.Read.meaning g.T.Read.reads g.T.Read.refuses _ _ c.loop-item.all.items c.in-Some.item c.in_err-read_owned.field-0.0 so_far c.in_err-read_owned.ensures.reads in
    search (rules, bad)

pub returns : goal.returns
returns g c =
    let none : c.loop-item.item-iterator.rest.items ≡ [] = nil_from_length _ (sym c.loop-item.item-iterator.rest.ok.0 ∙ c.in-None.ensures.steps.0) in
    items_end _ _ g.T.Read.meaning g.T.Read.reads g.T.Read.refuses _ _ c.loop-item.all.items c.loop-item.invariant none
