use Rattle.cargo_toml_audit.proofs.Cited.{ap, arith, common_steps, drop_all, map, string_bytes, ◌∙◌}
use Rattle.cargo_toml_audit.proofs.auditing.find_beside.Goals as goal

pub returns-clause-found : goal.returns-clause-found
returns-clause-found g c = λ d agrees.
    let strays = c.loop-entry.invariant d agrees in (
      strays.0,
      grind (arith, common_steps, c.in_ok-find_all.ensures, strays.1, drop_all, c.loop-entry-test.false, c.as_slice-entry-items.ensures.value, c.in_ok-find_if.ensures, c.contains-is_unlisted.ensures, ap (map string_bytes) c.as_slice-2.ensures.value ∙ c.in_ok-unseen.ensures),
    )
