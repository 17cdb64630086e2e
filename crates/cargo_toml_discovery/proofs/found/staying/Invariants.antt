use Rattle.cargo_toml_discovery.proofs.Cited.{filter, has_path, map, product_meaning, take, ◌≡◌}
use Rattle.cargo_toml_discovery.proofs.found.staying.Given as goal

abbrev pub invariant-loop-product : goal.invariant-loop-product
invariant-loop-product l = map product_meaning l.list.items ≡ filter has_path (map product_meaning (take l.product-index l.products))
