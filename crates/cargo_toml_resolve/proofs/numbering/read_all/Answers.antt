use Rattle.cargo_toml_resolve.proofs.Cited.{Among, IsTrue, IsWanted, inl, inr, length, refl, rules, slice_get_read, subst, texts_now, true, ℕ, ◌<◌, ◌≡◌, ◌⊎◌}
use Rattle.cargo_toml_resolve.proofs.NumberRows.{none_read, one_more_read, RowsSoFar, all_read, no_rows}
use Rattle.cargo_toml_resolve.proofs.{numbering.read_all.Goals.else-leads_nowhere+in_ok-read+in_ok-push, numbering.read_all.Goals.then-leads_nowhere+in_ok-push_none}
use Rattle.cargo_toml_resolve.proofs.numbering.read_all.Goals as goal

pub loop-own-init : goal.loop-own-init
loop-own-init c = no_rows c.args.features.now c.args.flags.now (texts_now c.args.texts.now.items) c.in_ok-edges.edges c.in_ok-names.names c.requires.keys c.in_ok-edges.ensures c.in_ok-names.ensures

pub loop-own-preserved : goal.loop-own-preserved
loop-own-preserved c =
    let vs = c.args.features.now in
    let fs = c.args.flags.now in
    let own = c.loop-own.own in
    let v = c.index-features-own.result in
    let old = c.loop-own.invariant in
    let texts = texts_now c.loop-own.texts.items in
    let es = c.loop-own.rows.edges in
    let ns = c.loop-own.rows.names in
    let below : own < length vs = search rules in
    let there = slice_get_read vs (length vs) own v refl below c.index-features-own.is in
    elim c.if-leads_nowhere.branch [
      | then-leads_nowhere+in_ok-push_none w ↦
          rw (w.texts-is, w.rows-is, w.in_ok-push_none.ensures.edges, w.in_ok-push_none.ensures.names)
          (none_read vs fs own texts es ns old v below there (c.leads_nowhere.ensures w.if-leads_nowhere.true))
      | else-leads_nowhere+in_ok-read+in_ok-push w ↦
          let row = w.read.new.self.edges.items in
          let read = rw w.at.ensures at w.in_ok-read.ensures.edges in
          let asked : IsWanted fs true own ⊎ ((x : ℕ) × Among row x × IsWanted fs true x) → IsTrue w.is_asked-is_asked.result =
          λ s. w.is_asked-is_asked.ensures.1 (elim s [ inl on ↦ inl (search rules) | inr b ↦ inr b ]) in
          rw (w.texts-is, w.rows-is, w.in_ok-push.ensures.edges, w.in_ok-push.ensures.names)
          (one_more_read vs fs own texts es ns old v below there (texts_now w.read.new.texts.items) row w.read.new.self.names.items w.is_asked-is_asked.result w.in_ok-read.ensures.extends read w.in_ok-read.ensures.names asked)
    ]

pub returns-clause-rows : goal.returns-clause-rows
returns-clause-rows c =
    let vs = c.args.features.now in
    let all : c.loop-own.own ≡ length vs = search rules in
    all_read vs c.args.flags.now (texts_now c.loop-own.texts.items) c.loop-own.rows.edges c.loop-own.rows.names
    (subst (λ n. RowsSoFar vs c.args.flags.now n (texts_now c.loop-own.texts.items) c.loop-own.rows.edges c.loop-own.rows.names) all c.loop-own.invariant)
