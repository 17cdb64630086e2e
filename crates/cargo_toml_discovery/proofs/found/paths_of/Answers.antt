use Rattle.cargo_toml_discovery.proofs.Cited.{Bool, ap, arith, is_text, product_meaning, sym, ◌||◌, ◌∙◌}
use Rattle.cargo_toml_discovery.proofs.Placed.{is_path_of-more}
use Rattle.cargo_toml_discovery.proofs.found.paths_of.Goals as goal

pub loop-product-preserved : goal.loop-product-preserved
loop-product-preserved c = λ t. c.in_ok-add_path.ensures.ok t ∙ ap (λ (b : Bool). b || is_text t (product_meaning c.product-item.result).path) (c.loop-product.invariant t) ∙ sym (is_path_of-more c.args.products.now c.loop-product.product-index c.product-item.result t (omega arith) c.product-item.is)
