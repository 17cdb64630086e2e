use Rattle.cargo_toml_discovery.proofs.Cited.{drop, is_path_of, map, product_meaning, ◌≡◌}
use Rattle.cargo_toml_discovery.proofs.products.is_path_of.Given as goal

abbrev pub invariant-loop-product : goal.invariant-loop-product
invariant-loop-product l = is_path_of (map product_meaning l.products) l.path ≡ is_path_of (map product_meaning (drop l.product-index l.products)) l.path
