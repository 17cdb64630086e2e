use Rattle.cargo_toml_resolve.proofs.Cited.{HasTextsOf, IsWanted, [], ap, arith, drop, false, false≢true, nil_from_length, refl, row_items, rules, suc, sym, texts_now, true, ◌+◌, ◌∙◌, ◌∷◌, ◌≡◌}
use Rattle.cargo_toml_resolve.proofs.HashedKept.{all_those, comes_next, not_put, one_put}
use Rattle.cargo_toml_resolve.proofs.{kept.hashed_apart.Goals.then-index+in_ok-put_redirect, kept.hashed_apart.Goals.else-index+in_ok-put}
use Rattle.cargo_toml_resolve.proofs.kept.hashed_apart.Goals as goal

pub loop-feature-preserved : goal.loop-feature-preserved
loop-feature-preserved g c =
    let vs = c.args.features.items in
    let w = c.args.walked.now in
    let n = c.loop-feature.place in
    let v = c.in-Some.feature in
    let ws = c.next.new.self.rest.items in
    let old = c.loop-feature.invariant in
    let more : c.loop-feature.feature-iterator.rest.items ≡ v ∷ ws = search rules in
    let next = comes_next vs n v ws (sym more ∙ old.rest) in
    let one_more : suc n ≡ n + 1 = omega arith in
    elim c.if-index.branch [
      | then-index+in_ok-put_redirect b ↦
          let on : IsWanted w.flags.items true n = search rules in
          let p = rw b.at.ensures at b.in_ok-put_redirect.ensures in
          rw (b.by_name-is, b.hidden-is) (record {
            rest = next.2 ∙ ap (λ k. drop k vs) one_more;
            hashed = record {
              kept = not_put vs (IsWanted w.flags.items false) (λ i v u. u ≡ v) n c.loop-feature.by_name (λ off. false≢true (sym off ∙ on)) old.hashed.kept;
              redirects = one_put vs (IsWanted w.flags.items true) (λ i v s. HasTextsOf (texts_now w.texts.items) (row_items w.redirects i) s) n c.loop-feature.hidden
                  c.requires.in_order v p.0 b.put_redirect.new.hidden next.1 on p.1 p.2 old.hashed.redirects;
            };
          })
      | else-index+in_ok-put b ↦
          let off : IsWanted w.flags.items false n = search rules in
          rw (b.by_name-is, b.hidden-is) (record {
            rest = next.2 ∙ ap (λ k. drop k vs) one_more;
            hashed = record {
              kept = one_put vs (IsWanted w.flags.items false) (λ i v u. u ≡ v) n c.loop-feature.by_name c.requires.in_order v v b.put.new.map next.1 off refl b.in_ok-put.ensures old.hashed.kept;
              redirects = not_put vs (IsWanted w.flags.items true) (λ i v s. HasTextsOf (texts_now w.texts.items) (row_items w.redirects i) s) n c.loop-feature.hidden (λ on. false≢true (sym off ∙ on)) old.hashed.redirects;
            };
          })
    ]

pub put_redirect-requires-clause-own : goal.put_redirect-requires-clause-own
put_redirect-requires-clause-own g c =
    let n = c.loop-feature.place in
    let more : c.loop-feature.feature-iterator.rest.items ≡ c.in-Some.feature ∷ c.next.new.self.rest.items = search rules in
    let next = comes_next c.args.features.items n c.in-Some.feature c.next.new.self.rest.items (sym more ∙ c.loop-feature.invariant.rest) in
    let on : IsWanted c.args.walked.now.flags.items true n = search rules in
    rw c.at.ensures (λ off. c.requires.own n c.in-Some.feature on off next.1)

pub overflow_add-place : goal.overflow_add-place
overflow_add-place g c =
    let more : c.loop-feature.feature-iterator.rest.items ≡ c.in-Some.feature ∷ c.next.new.self.rest.items = search rules in
    let next = comes_next c.args.features.items c.loop-feature.place c.in-Some.feature c.next.new.self.rest.items (sym more ∙ c.loop-feature.invariant.rest) in
    let small = c.args.features.small in
    let ok = c.args.features.ok in
    grind (arith, next.0, small, ok)

pub returns : goal.returns
returns g c =
    let vs = c.args.features.items in
    let w = c.args.walked.now in
    let n = c.loop-feature.place in
    let old = c.loop-feature.invariant in
    let none : c.loop-feature.feature-iterator.rest.items ≡ [] = grind (arith, nil_from_length) in
    let done = sym old.rest ∙ none in
    record {
      kept = all_those vs (IsWanted w.flags.items false) (λ i v u. u ≡ v) n c.loop-feature.by_name done old.hashed.kept;
      redirects = all_those vs (IsWanted w.flags.items true) (λ i v s. HasTextsOf (texts_now w.texts.items) (row_items w.redirects i) s) n c.loop-feature.hidden done old.hashed.redirects;
    }
