use Rattle.cargo_toml_program.proofs.Cited.{arith, product_line, product_meaning, string_bytes}
use Rattle.cargo_toml_program.proofs.Products.{one_more}
use Rattle.cargo_toml_program.proofs.completion.write_products.Goals as goal

pub loop-product-preserved : goal.loop-product-preserved
loop-product-preserved c =
    one_more (product_line c.args.kind.now) product_meaning (string_bytes c.args.text.now) (string_bytes c.loop-product.text)
    (string_bytes c.write_product.new.text) c.args.products.now c.loop-product.product-index c.product-item.result (omega arith)
    c.product-item.is c.in_ok-write_product.ensures c.loop-product.invariant
