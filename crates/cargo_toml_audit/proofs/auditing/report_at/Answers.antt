use Rattle.cargo_toml_audit.proofs.Cited.{IsManifestIn, Manifest, Text, Value, err_from_is_err_and, inl, subst, sym, ◌∙◌}
use Rattle.cargo_toml_audit.proofs.auditing.report_at.Goals as goal

pub returns-in_err-held-clause-refused : goal.returns-in_err-held-clause-refused
returns-in_err-held-clause-refused g c =
    let left = c.from_residual-in_err-held in
    let p = err_from_is_err_and left.result left.ensures.1 in
    rw (p.1, p.2) (inl c.in_err-held.ensures.refused)

pub returns-clause-audited : goal.returns-clause-audited
returns-clause-audited g c = record {
  base = _;
  asked = c.args.asked.now;
  written = subst (λ (m : Manifest Value). (text : Text) × IsManifestIn text m) (sym c.deref-manifest.ensures) c.in_ok-held.ensures.read;
  has = c.in-Some.is;
  path = c.as_str-2.ensures.value ∙ c.in_ok-path.ensures;
  place = c.in_ok-report.ensures.place;
  report = c.in_ok-report.ensures.report;
}
