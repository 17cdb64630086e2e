use Rattle.cargo_toml_resolve.proofs.Cited.{Among, IsWanted, Leads, Puts, ap, arith, bins_of, but_bins, common_steps, false, length, refl, row_items, rules, subst, sym, take, true, ◌<◌, ◌∙◌}
use Rattle.cargo_toml_resolve.proofs.{BinTurns.kept_turn, BinTurns.none_passed, BinTurns.one_turn, InPlace.alike_len, passing.pass_bins.Goals.then-flags-r+in_ok-pass_from, passing.pass_bins.Goals.else-flags-r}
use Rattle.cargo_toml_resolve.proofs.passing.pass_bins.Goals as goal

pub returns-then-not-have_bins-clause-others : goal.returns-then-not-have_bins-clause-others
returns-then-not-have_bins-clause-others c = refl

pub returns-then-not-have_bins-clause-bins : goal.returns-then-not-have_bins-clause-bins
returns-then-not-have_bins-clause-bins c = grind (arith, none_passed)

pub loop-r-init : goal.loop-r-init
loop-r-init c = grind arith

pub loop-r-preserved : goal.loop-r-preserved
loop-r-preserved c =
    let old = c.args.features.now.items in
    let mid = c.loop-r.features.items in
    let redirects = c.args.redirects.now in
    let flags = c.args.flags.now in
    let r = c.loop-r.r in
    let inside : r < length old = search rules in
    elim c.if-flags-r.branch [
      | then-flags-r+in_ok-pass_from w ↦
          let gone : IsWanted flags true r = search rules in
          let new = w.pass_from.new.features.items in
          let read = w.row.ensures ∙ ap (row_items redirects) w.at-at.ensures in
          let puts : Puts (Leads redirects r) (take 10 (bins_of mid r)) mid new = subst (λ row. Puts (Among row) (take 10 (bins_of mid r)) mid new) read (rw w.at-at.ensures at w.in_ok-pass_from.ensures.put) in
          let same = alike_len but_bins old mid c.loop-r.invariant.same in
          rw (w.features-is) (rw (w.known-is) (record {
            known = w.in_ok-pass_from.ensures.known;
            same = puts.same ∙ c.loop-r.invariant.same;
            inside = omega (arith, inside);
            turned = one_turn redirects flags (bins_of old) (length old) r inside gone (bins_of mid) (bins_of new) c.loop-r.invariant.turned (λ y below. puts.lists y (subst (λ n. y < n) (sym same) below));
          }))
      | else-flags-r w ↦
          let kept : IsWanted flags false r = search rules in
          rw (w.features-is) (rw (w.known-is) (record {
            known = c.loop-r.invariant.known;
            same = c.loop-r.invariant.same;
            inside = omega (arith, inside);
            turned = kept_turn redirects flags (bins_of old) (length old) r (bins_of mid) kept c.loop-r.invariant.turned;
          }))
    ]

pub returns-clause-bins : goal.returns-clause-bins
returns-clause-bins c = grind (arith, common_steps, c.loop-r.invariant.turned)
