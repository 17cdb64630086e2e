use Rattle.cargo_toml_lint.proofs.Cited.{◌++◌, ◌≡◌, about, flat_map, held_names, map, product_findings, product_meaning, take}
use Rattle.cargo_toml_lint.proofs.gathering.add_some.Given as goal

abbrev pub invariant-loop-product : goal.invariant-loop-product
invariant-loop-product l =
    map about l.found.items ≡ map about l.initial.found.items
    ++ flat_map (product_findings (held_names l.known))
    (map product_meaning (take l.product-index l.products))
