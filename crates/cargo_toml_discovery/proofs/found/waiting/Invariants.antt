use Rattle.cargo_toml_discovery.proofs.Cited.{Name, last_waiting, map, product_meaning, take, waiting_in, ◌≡◌}
use Rattle.cargo_toml_discovery.proofs.found.waiting.Given as goal

abbrev pub invariant-loop-product : goal.invariant-loop-product
invariant-loop-product l = (n : Name) → waiting_in l.map n ≡ last_waiting (map product_meaning (take l.product-index l.products)) n
