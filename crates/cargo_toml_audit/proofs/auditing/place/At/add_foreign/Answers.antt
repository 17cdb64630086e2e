use Rattle.cargo_toml_audit.proofs.Cited.{None, Some, ap, append-nil, oddities_of, sym, ◌∙◌}
use Rattle.cargo_toml_audit.proofs.auditing.place.At.add_foreign.Goals.{in-Err+in_ok-refuse, in_default}
use Rattle.cargo_toml_audit.proofs.auditing.place.At.add_foreign.Goals as goal

pub returns-clause-found : goal.returns-clause-found
returns-clause-found g c = elim c.match-complete_from_path.branch [
  | in-Err+in_ok-refuse w ↦ (Some w.in-Err.fault, ap oddities_of w.findings-is ∙ w.in_ok-refuse.ensures.found)
  | in_default w ↦ (None, ap oddities_of w.findings-is ∙ sym (append-nil _))
]
