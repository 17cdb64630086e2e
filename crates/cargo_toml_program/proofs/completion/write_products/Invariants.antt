use Rattle.cargo_toml_program.proofs.Cited.{flat_map, map, product_line, product_meaning, string_bytes, take, ◌++◌, ◌≡◌}
use Rattle.cargo_toml_program.proofs.completion.write_products.Given as goal

abbrev pub invariant-loop-product : goal.invariant-loop-product
invariant-loop-product l =
    string_bytes l.text
    ≡ string_bytes l.initial.text
    ++ flat_map (product_line l.kind) (map product_meaning (take l.product-index l.products))
