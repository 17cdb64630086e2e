use Rattle.cargo_toml_tools.proofs.files.documenting.document.Goals as goal

pub returns-clause-documented : goal.returns-clause-documented
returns-clause-documented g c = record {
  manifest = c.deref-manifest.result.now;
  read = rw c.deref-manifest.ensures c.in_ok-held.ensures.read;
  features = c.in_ok-resolved.resolved;
  whole = c.in_ok-resolved.ensures.whole;
  rows = c.as_slice.result.now;
  exact = rw c.as_slice.ensures.value (c.in_ok-rows.ensures c.in_ok-resolved.ensures.keyed);
  taken = c.in_ok-take.ensures;
}
