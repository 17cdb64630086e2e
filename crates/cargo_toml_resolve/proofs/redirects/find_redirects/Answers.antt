use Rattle.cargo_toml_resolve.proofs.Cited.{Among, Bool, HasLabel, IsPassed, IsWanted, List, Moves, Replaces, arith, common_steps, false, length, length-set, rules, subst, true, ℕ, ◌<◌, ◌↔◌, ◌∙◌}
use Rattle.cargo_toml_resolve.proofs.RowsInOrder.{none_finished, finds_redirects, first_rows, none_moved, one_more_own, one_more_row, skipped_rows, still_own, one_more_finished, still_finished}
use Rattle.cargo_toml_resolve.proofs.{redirects.find_redirects.Goals.then-is_removed-r+in_ok-moved-2, redirects.find_redirects.Goals.else-is_removed-r}
use Rattle.cargo_toml_resolve.proofs.redirects.find_redirects.Goals as goal

pub loop-r-init : goal.loop-r-init
loop-r-init c = grind (arith, none_finished, first_rows c.args.edges c.args.is_removed.now c.args.edges (length c.args.edges) c.requires.within.edges_inside, first_rows c.args.edges c.args.is_removed.now c.args.labels (length c.args.is_removed.now) c.requires.within.labels_inside, none_moved c.in_ok-moved.moved.items c.args.labels, c.in_ok-finished.ensures.items_if_clones_equal)

pub redirect-requires-clause-within : goal.redirect-requires-clause-within
redirect-requires-clause-within c = grind (arith, common_steps, c.loop-r.invariant, c.loop-r.invariant.flags, c.requires.within.count, c.loop-r.invariant.edge_rows.inside, c.loop-r.invariant.label_rows.inside)

pub loop-r-preserved : goal.loop-r-preserved
loop-r-preserved c =
    let es = c.args.edges in
    let removed = c.args.is_removed.now in
    let r = c.loop-r.r in
    let old = c.loop-r.invariant in
    let below : r < length removed = let lt = c.loop-r-test.true in let e = c.len-r-end.ensures in let count = c.requires.within.count in omega (arith, lt, e, count) in
    elim c.if-is_removed-r.branch [
      | then-is_removed-r+in_ok-moved-2 w ↦
          let gone : IsWanted removed true r = search rules in
          let flags = w.as_slice-flags.ensures.value in
          let rows = w.in_ok-moved-2.ensures.rows in
          let passed : (b : ℕ) → Among rows.0 b ↔ IsPassed c.loop-r.edges c.loop-r.finished.items r b =
          subst (λ (f : List Bool). (b : ℕ) → Among rows.0 b ↔ IsPassed c.loop-r.edges f r b) flags (rw w.at-own.ensures at rows.1) in
          let targets : Replaces r (HasLabel (Among rows.0) c.loop-r.edges c.loop-r.finished.items r) c.loop-r.edges w.redirect.new.edges =
          subst (λ (f : List Bool). Replaces r (HasLabel (Among rows.0) c.loop-r.edges f r) c.loop-r.edges w.redirect.new.edges) flags (rw w.at-own.ensures at rows.2) in
          let row : Moves r (HasLabel (Among rows.0) c.loop-r.labels c.loop-r.finished.items r) c.loop-r.labels w.redirect.new.labels w.in_ok-moved-2.field-0 =
          subst (λ (f : List Bool). Moves r (HasLabel (Among rows.0) c.loop-r.labels f r) c.loop-r.labels w.redirect.new.labels w.in_ok-moved-2.field-0) flags (rw w.at-own.ensures at rows.3) in
          rw (w.edges-is, w.labels-is, w.finished-is, w.moved-is, w.walk-is) (record {
            flags = length-set c.loop-r.finished.items r true ∙ old.flags;
            marks = length-set c.loop-r.moved.items r w.in_ok-moved-2.field-0 ∙ old.marks;
            room = w.in_ok-moved-2.ensures.room ∙ old.room;
            is_finished = one_more_finished removed c.loop-r.finished.items r (let e = old.flags in omega (arith, below, e)) gone old.is_finished;
            edge_rows = one_more_row es removed es (length es) (length es) r c.loop-r.edges c.loop-r.edges old.edge_rows old.edge_rows c.loop-r.finished.items old.is_finished rows.0 passed gone w.redirect.new.edges targets;
            label_rows = one_more_row es removed c.args.labels (length removed) (length es) r c.loop-r.edges c.loop-r.labels old.edge_rows old.label_rows c.loop-r.finished.items old.is_finished rows.0 passed gone w.redirect.new.labels row.row;
            own = one_more_own r c.loop-r.moved.items c.args.labels c.loop-r.labels w.redirect.new.labels w.in_ok-moved-2.field-0 (HasLabel (Among rows.0) c.loop-r.labels c.loop-r.finished.items r) (let e = old.marks in omega (arith, below, e)) old.own row;
          })
      | else-is_removed-r w ↦
          let kept : IsWanted removed false r = search rules in
          rw (w.edges-is, w.labels-is, w.finished-is, w.moved-is, w.walk-is) (record {
            flags = old.flags;
            marks = old.marks;
            room = old.room;
            is_finished = still_finished removed r kept c.loop-r.finished.items old.is_finished;
            edge_rows = skipped_rows es removed es (length es) r c.loop-r.edges kept old.edge_rows;
            label_rows = skipped_rows es removed c.args.labels (length removed) r c.loop-r.labels kept old.label_rows;
            own = still_own r c.loop-r.moved.items c.args.labels c.loop-r.labels old.own;
          })
    ]

pub returns : goal.returns
returns c = grind (arith, finds_redirects, c.requires.within.same, c.len-r-end.ensures, c.loop-r.invariant.label_rows, c.loop-r.invariant.marks)
