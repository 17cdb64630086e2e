use Rattle.cargo_toml_bench.proofs.Cited.{Manifest, Spells, Value, ap, manifest_meaning, report_text, subst, sym, texts, view, ◌∙◌}
use Rattle.cargo_toml_bench.proofs.report.print.report_of.Goals as goal

pub returns-clause-text : goal.returns-clause-text
returns-clause-text c =
    let found = c.deref.result.now in
    let names = texts c.in_ok-report.report.unreferenced in record {
      manifest = manifest_meaning view found;
      spelled = subst (λ (m : Manifest Value). Spells c.args.bytes.now (manifest_meaning view m)) (sym c.deref.ensures) c.in_ok-held.ensures.manifest;
      unreferenced = names;
      exact = c.in_ok-report.ensures.unreferenced;
      whole = c.in_ok-report_text.ensures ∙ ap (λ keys. report_text keys names) c.in_ok-report.ensures.optional;
    }
