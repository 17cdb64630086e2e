use Rattle.cargo_toml_bench.proofs.Cited.{IsTrue, MAX_ITEMS, ap, filter, is_alone_at, is_removed, manifest_meaning, parsed_table, texts_now, true, ◌∙◌}
use Rattle.cargo_toml_bench.proofs.Unreferenced.{all_alone, nothing_removed}
use Rattle.cargo_toml_bench.proofs.report.unreferenced_features.Goals as goal

pub returns-clause-names : goal.returns-clause-names
returns-clause-names g c =
    let t = parsed_table MAX_ITEMS (manifest_meaning (λ m. m) c.args.manifest.now) in
    let m = c.in_ok-resolved.resolved.features in
    all_alone m t (λ x. IsTrue (is_removed t (λ _. true) x)) (nothing_removed t) c.in_ok-resolved.ensures.resolved.kept.resolved (texts_now c.in_ok-names.names.items) _
    c.in_ok-names.ensures.all c.in_ok-names.ensures.ascending
    (c.in_ok-alone_among.ensures ∙ ap (λ ks. filter (is_alone_at m) (texts_now ks)) c.as_slice.ensures.value)
