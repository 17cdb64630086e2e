use Rattle.cargo_toml_answers.proofs.documenting.rows_of.Goals as goal

pub returns-clause-documented : goal.returns-clause-documented
returns-clause-documented c = record {
  features = c.in_ok-resolved.resolved;
  whole = c.in_ok-resolved.ensures.resolved;
  rows = c.in_ok-rows.rows.items;
  exact = c.in_ok-rows.ensures c.in_ok-resolved.ensures.keyed;
  printed = rw c.as_slice.ensures.value at c.in_ok-rows_json.ensures;
}
