use Rattle.cargo_toml_resolve.proofs.Cited.{IsWanted, arith, false, length, rules, texts_now, true, ◌<◌, ◌∙◌, ◌≡◌}
use Rattle.cargo_toml_resolve.proofs.{Steps.read_at, TakenOver.none_take_over, TakenOver.one_more_takes_over, TakenOver.skipped, keeping.keep_all.Goals.then-not-index+in_ok-keep, keeping.keep_all.Goals.else-not-index}
use Rattle.cargo_toml_resolve.proofs.keeping.keep_all.Goals as goal

pub loop-own-init : goal.loop-own-init
loop-own-init c = grind (arith, none_take_over c.args.graph.now.edges c.args.graph.now.names c.args.graph.now.flags.items (texts_now c.args.graph.now.texts.items) c.args.features.now.items)

pub loop-own-preserved : goal.loop-own-preserved
loop-own-preserved c =
    let g = c.args.graph.now in
    let ts = texts_now g.texts.items in
    let fs = g.flags.items in
    let own = c.loop-own.own in
    let vs = c.args.features.now.items in
    let old = c.loop-own.invariant in
    elim c.if-not-index.branch [
      | then-not-index+in_ok-keep w ↦
          let kept : IsWanted fs false own = search rules in
          rw (w.features-is, w.walk-is) (record {
            taken = one_more_takes_over g.edges g.names fs ts own vs c.loop-own.features.items old.taken kept w.keep.new.features.items (rw w.at.ensures at w.in_ok-keep.ensures.kept);
            room = w.in_ok-keep.ensures.room ∙ old.room;
          })
      | else-not-index w ↦
          let on : c.index.result.now ≡ true = grind arith in
          let below : own < length fs =
          let l = c.loop-own-test.true in let e = c.len-own-end.ensures in let m = g.features_count in let n = g.flags_count in omega (arith, l, e, m, n) in
          let gone : IsWanted fs true own = read_at fs own false c.index.result.now below c.index.ensures ∙ on in
          rw (w.features-is, w.walk-is) (record {
            taken = skipped g.edges g.names fs ts own vs c.loop-own.features.items old.taken gone;
            room = old.room;
          })
    ]

pub returns-clause-kept : goal.returns-clause-kept
returns-clause-kept c = search rules
