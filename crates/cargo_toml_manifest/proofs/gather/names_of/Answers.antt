use Rattle.cargo_toml_manifest.proofs.Cited.{ErrorKind, NotFound, ap, fault_of, io, no_absence, no_input, refl, sameb, sym, the_type, ◌∙◌, ◌≡◌}
use Rattle.cargo_toml_manifest.proofs.gather.names_of.Goals.{in_default-via-in-Io+else-eq, in_default-via-in_default}
use Rattle.cargo_toml_manifest.proofs.gather.names_of.Goals as goal

pub returns-in_default : goal.returns-in_default
returns-in_default c =
    let fault = c.in-Err.fault in
    let other : ¬ (fault_of fault ≡ io NotFound) = elim c.in_default.branch [
      | in_default-via-in-Io+else-eq w ↦
          let kind = ap (λ (k : ErrorKind). sameb the_type k NotFound) w.kind.ensures in
          no_absence fault w.in-Io.found w.in-Io.is (sym kind ∙ sym w.eq.ensures ∙ w.if-eq.false)
      | in_default-via-in_default w ↦ no_input fault NotFound w.in_default.not-Io
    ] in
    rw c.in-Err.is (refl, other)
