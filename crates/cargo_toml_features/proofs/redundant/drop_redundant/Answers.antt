use Rattle.cargo_toml_features.proofs.Cited.{ap, arith, length, map, said_by, thinned, ◌∙◌, ◌≡◌}
use Rattle.std.proofs.lemmas.List.{with_items_is}
use Rattle.cargo_toml_features.proofs.redundant.drop_redundant.Goals as goal

pub returns-clause-lost : goal.returns-clause-lost
returns-clause-lost c = λ E recorded.
    let new = c.thin_all.new.items in
    let value = ap length c.as_mut_slice.ensures.value in
    let many : length new ≡ c.args.items.now.len = omega (arith, c.thin_all.auto.items, value, c.args.items.now.ok.0) in
    ap (map said_by) (with_items_is c.args.items.now new many)
    ∙ c.thin_all.ensures E (λ k. record { recorded = recorded k; listed = λ r is x. c.in_ok-lists.ensures E recorded r is k x })
    ∙ ap (λ xs. map (thinned E) (map said_by xs)) c.as_mut_slice.ensures.value
