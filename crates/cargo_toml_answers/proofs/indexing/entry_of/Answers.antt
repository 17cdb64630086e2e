use Rattle.std.proofs.Common.{None, Some, subst, ◌≡◌, ◌⊎◌}
use Rattle.std.proofs.lemmas.Result.{err_from_is_err_and}
use Rattle.serde_json.specs.View.{view}
use Rattle.cargo_toml.specs.Manifests.{held}
use Rattle.cargo_toml_tools.specs.{IndexEntries.index_data, Indexed.refusal_of, Sections.told}
use Rattle.cargo_toml_tools.specs.declared.index.IndexError.TheVariants.{Memory}
use Rattle.cargo_toml_answers.proofs.indexing.entry_of.Goals as goal

pub returns-clause-indexed : goal.returns-clause-indexed
returns-clause-indexed c = record {
  findings = c.as_slice.result.now;
  found = rw c.as_slice.ensures.value c.in_ok-findings.ensures.exact;
  taken = subst (λ w. refusal_of w c.as_slice.result.now c.args.text.now (held c.args.manifest.now) ≡ None) c.options_with.ensures c.in_ok-entry.ensures.taken;
  line = view c.in_ok-entry.entry;
  exact = subst (λ w. Some (view c.in_ok-entry.entry) ≡ index_data w c.args.text.now (held c.args.manifest.now)) c.options_with.ensures c.in_ok-entry.ensures.entry;
  printed = c.in_ok-to_string.ensures.order;
}

pub returns-in_err-entry-clause-refused : goal.returns-in_err-entry-clause-refused
returns-in_err-entry-clause-refused c =
    let p = err_from_is_err_and c.from_residual-in_err-entry.result c.from_residual-in_err-entry.ensures.1 in
    let e = c.in_err-entry.field-0.0 in
    let findings = c.as_slice.result.now in
    let refused = subst (λ w. (e ≡ Memory) ⊎ (told e ≡ refusal_of w findings c.args.text.now (held c.args.manifest.now))) c.options_with.ensures c.in_err-entry.ensures.refused in
    rw (p.1, p.2) (findings, (rw c.as_slice.ensures.value c.in_ok-findings.ensures.exact, refused))
