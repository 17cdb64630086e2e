use Rattle.cargo_toml_features.proofs.Cited.{ap, counts_alone, entry_of, get_or-map, is_mentioned_in, length-map, list_any_at, map, subst, sym, ◌<◌, ◌∙◌}
use Rattle.cargo_toml_features.proofs.record.counts_any.Goals as goal

pub returns-then-counts : goal.returns-then-counts
returns-then-counts c =
    let alone = counts_alone (is_mentioned_in c.args.mentions.now) in
    let es = c.args.entries.now in
    let i = c.loop-entry.entry-index in
    let p = c.entry-item.result in
    sym (list_any_at alone (map entry_of es) i (entry_of p) (subst (λ n. i < n) (sym (length-map es entry_of)) c.loop-entry-test.true)
    (ap alone (get_or-map entry_of es i p (entry_of p) c.loop-entry-test.true ∙ ap entry_of (sym c.entry-item.is)) ∙ sym c.counts.ensures ∙ c.if-counts.true))
