use Rattle.cargo_toml_discovery.proofs.Cited.{Name, is_path_in, is_path_of, map, product_meaning, take, ◌≡◌}
use Rattle.cargo_toml_discovery.proofs.found.paths_of.Given as goal

abbrev pub invariant-loop-product : goal.invariant-loop-product
invariant-loop-product l = (t : Name) → is_path_in l.paths t ≡ is_path_of (map product_meaning (take l.product-index l.products)) t
