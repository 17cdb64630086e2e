use Rattle.cargo_toml_resolve.proofs.Cited.{Among, arith, but_bins, common_steps, get_or, length, take, take_all, texts_now, ◌+◌, ◌≡◌, ◌≤◌}
use Rattle.cargo_toml_resolve.proofs.{InPlace.alike_len, passing.put_along.Goals.else-place-len, passing.put_along.Goals.then-place-len+in_ok-put_at, Steps.among_more, Steps.item_at, Steps.item_is, BinTurns.put_nowhere, BinTurns.put_past, BinTurns.then_put}
use Rattle.cargo_toml_resolve.proofs.passing.put_along.Goals as goal

pub loop-at-init : goal.loop-at-init
loop-at-init c = record { put = put_nowhere (texts_now c.args.bins.now) c.args.features.now.items; known = c.requires }

pub put_at-requires-clause-known : goal.put_at-requires-clause-known
put_at-requires-clause-known c = c.loop-at.invariant.known

pub loop-at-preserved : goal.loop-at-preserved
loop-at-preserved c =
    let row = c.args.row.now in
    let i = c.loop-at.at-index in
    let bins = texts_now c.args.bins.now in
    elim c.if-place-len.branch [
      | then-place-len+in_ok-put_at w ↦ rw (w.features-is) (rw (w.known-is) (record {
        put = then_put (Among (take i row)) (λ y. y ≡ get_or row i 0) (Among (take (i + 1) row)) bins c.args.features.now.items c.loop-at.features.items c.loop-at.invariant.put
            w.put_at.new.features.items (λ y. among_more row i y c.loop-at-test.true) (rw (item_is row i _ c.loop-at-test.true c.at-item.is) at w.in_ok-put_at.ensures.put);
        known = w.in_ok-put_at.ensures.known;
      }))
      | else-place-len w ↦
          let past : length c.args.features.now.items ≤ get_or row i 0 = (let same = alike_len but_bins c.args.features.now.items c.loop-at.features.items c.loop-at.invariant.put.same in let out = w.if-place-len.false in let len = c.len.ensures in let at = item_at row i _ _ c.loop-at-test.true c.at-item.is c.place.ensures in omega (arith, same, out, len, at)) in
          rw (w.features-is) (rw (w.known-is) (record {
            put = put_past (Among (take i row)) (λ y. y ≡ get_or row i 0) (Among (take (i + 1) row)) bins c.args.features.now.items c.loop-at.features.items c.loop-at.invariant.put
                (λ y. among_more row i y c.loop-at-test.true) (λ y is. omega (arith, past, is));
            known = c.loop-at.invariant.known;
          }))
    ]

pub returns-clause-put : goal.returns-clause-put
returns-clause-put c = grind (arith, common_steps, take_all c.loop-at.at-index c.args.row.now c.loop-at-test.false)
