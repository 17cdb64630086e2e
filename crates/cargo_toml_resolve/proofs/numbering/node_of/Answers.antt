use Rattle.cargo_toml_resolve.proofs.Cited.{Ascend, Bor, Text, [], ap, arith, get_or-take, length-map, length-take-le, map_push, nth_text, subst, sym, take-map, texts_now, ◌<◌, ◌∙◌, ◌≡◌}
use Rattle.cargo_toml_resolve.proofs.NumberRows.{extends_none, extends_push, fits_now, node_found, node_pushed}
use Rattle.cargo_toml_resolve.proofs.numbering.node_of.Goals as goal

pub seek-requires : goal.seek-requires
seek-requires c = rw c.deref.ensures.value (subst Ascend (take-map (λ (t : Bor Text). t.now) c.args.count c.args.texts.now.items) c.requires.keys)

pub returns-in-Some-clause-extends : goal.returns-in-Some-clause-extends
returns-in-Some-clause-extends c = extends_none c.args.count (texts_now c.args.texts.now.items)

pub returns-in-Some-clause-node : goal.returns-in-Some-clause-node
returns-in-Some-clause-node c =
    let ts = c.args.texts.now.items in
    let n = c.args.count in
    let f = rw c.deref.ensures.value at c.in-Some.ensures.found in
    let i = c.in-Some.node in
    let lt : i < n = (let long = length-take-le n ts c.requires.fits in let l = f.0 in omega (arith, long, l)) in
    let is : nth_text (texts_now ts) i ≡ c.args.name.now = sym (get_or-take n (texts_now ts) i [] lt) ∙ ap (λ us. nth_text us i) (take-map (λ (t : Bor Text). t.now) n ts) ∙ f.1 in
    node_found n (texts_now ts) c.args.name.now i (fits_now n ts c.requires.fits) c.requires.keys lt is

pub returns-clause-extends : goal.returns-clause-extends
returns-clause-extends c = grind (arith, take-map, map_push, extends_push)

pub returns-clause-node : goal.returns-clause-node
returns-clause-node c = grind (arith, take-map, length-map, map_push, node_pushed, fits_now c.args.count c.args.texts.now.items c.requires.fits)
