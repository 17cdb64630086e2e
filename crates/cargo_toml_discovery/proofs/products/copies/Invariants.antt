use Rattle.cargo_toml_discovery.proofs.Cited.{map, product_meaning, take, ◌≡◌}
use Rattle.cargo_toml_discovery.proofs.products.copies.Given as goal

abbrev pub invariant-loop-product : goal.invariant-loop-product
invariant-loop-product l = map product_meaning l.list.items ≡ map product_meaning (take l.product-index l.products)
