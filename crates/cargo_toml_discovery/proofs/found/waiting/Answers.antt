use Rattle.cargo_toml_discovery.proofs.Cited.{ap, arith, product_meaning, sym, waits_or, ◌∙◌}
use Rattle.cargo_toml_discovery.proofs.Placed.{last_waiting-more}
use Rattle.cargo_toml_discovery.proofs.found.waiting.Goals as goal

pub loop-product-preserved : goal.loop-product-preserved
loop-product-preserved c = λ n. c.in_ok-wait.ensures.ok n ∙ ap (λ w. waits_or (product_meaning c.product-item.result) n w) (c.loop-product.invariant n) ∙ sym (last_waiting-more c.args.products.now c.loop-product.product-index c.product-item.result n (omega arith) c.product-item.is)
