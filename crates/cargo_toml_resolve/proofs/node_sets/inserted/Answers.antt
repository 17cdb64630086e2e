use Rattle.cargo_toml_resolve.proofs.Cited.{Bor, Text, [], ap, get_or-map, length, nth_text, rules, sym, texts_now, ◌<◌, ◌∙◌}
use Rattle.cargo_toml_resolve.proofs.{InOrder.place_below, InOrder.one_inserted, Steps.item_at}
use Rattle.cargo_toml_resolve.proofs.node_sets.inserted.Goals as goal

pub offset_bounds-texts-place : goal.offset_bounds-texts-place
offset_bounds-texts-place c = (let lt : c.place.result < length c.args.texts.now = place_below c.args.nodes.now (length c.args.texts.now) c.loop-x.x-index _ _ c.requires c.loop-x-test.true c.x-item.is c.place.ensures in search rules)

pub bounds-texts-place : goal.bounds-texts-place
bounds-texts-place c = place_below c.args.nodes.now (length c.args.texts.now) c.loop-x.x-index _ _ c.requires c.loop-x-test.true c.x-item.is c.place.ensures

pub loop-x-preserved : goal.loop-x-preserved
loop-x-preserved c =
    let texts = c.args.texts.now in
    let i = c.loop-x.x-index in
    let blank : Bor Text = record { ref_ptr = (0, 0); now = [] } in
    let read = sym (get_or-map (λ (t : Bor Text). t.now) texts c.place.result blank) ∙ ap (nth_text (texts_now texts)) (item_at c.args.nodes.now i _ c.place.result c.loop-x-test.true c.x-item.is c.place.ensures) in
    one_inserted (texts_now texts) c.args.nodes.now i _ _ _ c.loop-x-test.true read c.loop-x.invariant c.in_ok-add_text.ensures
