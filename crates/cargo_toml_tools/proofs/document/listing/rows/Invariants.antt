use Rattle.cargo_toml_tools.proofs.Cited.{drop, IsKeyed, lists_default, manifest_meaning, map, table_in, turning}
use Rattle.cargo_toml_tools.proofs.Rowed.{Rowed}
use Rattle.cargo_toml_tools.proofs.document.listing.rows.Given as goal

abbrev pub invariant-loop-name : goal.invariant-loop-name
invariant-loop-name g l =
    let d = manifest_meaning (λ m. m) l.manifest in
    IsKeyed l.features → Rowed (turning d (table_in l.features).has) l.features (lists_default d)
    (map (λ t. t.now) l.name-items) (map (λ t. t.now) (drop l.name-index l.name-items)) l.rows.items
