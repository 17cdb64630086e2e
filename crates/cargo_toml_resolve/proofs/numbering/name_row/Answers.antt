use Rattle.cargo_toml_resolve.proofs.Cited.{Among, HasNames, [], arith, iter_end, map, rules, subst, sym, texts_now, ◌++◌, ◌∷◌, ◌≡◌}
use Rattle.cargo_toml_resolve.proofs.NumberRows.{names_still, texts_longer, extends_none, extends_then, fits_now, front_still, names_all, names_empty, names_more, names_none}
use Rattle.cargo_toml_resolve.proofs.InOrder.{seen}
use Rattle.cargo_toml_resolve.proofs.numbering.name_row.Goals as goal

pub returns-then-is_empty-clause-extends : goal.returns-then-is_empty-clause-extends
returns-then-is_empty-clause-extends c = extends_none c.args.count (texts_now c.args.texts.now.items)

pub returns-then-is_empty-clause-names : goal.returns-then-is_empty-clause-names
returns-then-is_empty-clause-names c = names_empty c.args.count (texts_now c.args.texts.now.items) c.args.named.now c.args.row.now.items c.requires.empty (c.is_empty.ensures.0 c.if-is_empty.true)

pub loop-name-init : goal.loop-name-init
loop-name-init c = grind (arith, extends_none c.args.count (texts_now c.args.texts.now.items), names_none c.args.count (texts_now c.args.texts.now.items) c.args.row.now.items c.requires.empty)

pub node_of-requires-in-loop-name-clause-fits : goal.node_of-requires-in-loop-name-clause-fits
node_of-requires-in-loop-name-clause-fits c = texts_longer c.args.count c.args.texts.now.items c.loop-name.texts.items c.requires.fits c.loop-name.invariant.extends

pub node_of-requires-in-loop-name-clause-keys : goal.node_of-requires-in-loop-name-clause-keys
node_of-requires-in-loop-name-clause-keys c = grind (arith, front_still, fits_now c.args.count c.args.texts.now.items c.requires.fits, c.loop-name.invariant.extends)

pub loop-name-preserved : goal.loop-name-preserved
loop-name-preserved c =
    let n = c.args.count in
    let old = texts_now c.args.texts.now.items in
    let now = texts_now c.loop-name.texts.items in
    let new = texts_now c.node_of-in-loop-name.new.texts.items in
    let i = c.loop-name.invariant in
    let fits = fits_now n c.args.texts.now.items c.requires.fits in
    let still = texts_longer n c.args.texts.now.items c.loop-name.texts.items c.requires.fits i.extends in
    record {
      extends = extends_then n old now i.extends new fits c.in_ok-node-2.ensures.extends;
      names = subst (HasNames n new (Among (seen (c.loop-name.yielded ++ c.in-Some-name.name ∷ [])))) (sym c.in_ok-push-2.ensures.items)
          (names_more n new c.loop-name.yielded c.in-Some-name.name c.loop-name.row.items c.in_ok-node-2.node c.in_ok-node-2.ensures.node
          (names_still n now new c.in_ok-node-2.ensures.extends (Among (seen c.loop-name.yielded)) c.loop-name.row.items (fits_now n c.loop-name.texts.items still) i.names));
    }

pub returns-clause-names : goal.returns-clause-names
returns-clause-names c =
    let all : map (λ k. k.now) c.loop-name.yielded ≡ c.args.named.now.keys = search (rules, iter_end) in
    names_all c.args.count (texts_now c.loop-name.texts.items) c.args.named.now c.loop-name.yielded c.loop-name.row.items all c.loop-name.invariant.names
