use Rattle.cargo_toml_discovery.proofs.Cited.{answers_always, ap, map, on_ok_weaker, product_lt, product_meaning, rules, ◌∙◌}
use Rattle.cargo_toml_discovery.proofs.Stable.{products_rank, sort_gives, map-sorted_by}
use Rattle.cargo_toml_discovery.proofs.products.sort_products.Goals as goal

pub returns : goal.returns
returns c =
    let old = c.args.products.now.items in
    let new = c.sort_by.new.self.items in
    record {
      ok = on_ok_weaker c.sort_by.result (λ up.
          let order = products_rank product_meaning in
          let by_it = answers_always _ _ _ (λ f a r f' h. search rules) in
          let same = sort_gives _ order old new (up _ order by_it) (c.sort_by.ensures.stable _ order (answers_always _ _ _ (λ f a r f' h. search rules))) in
          ap (λ ps. map product_meaning ps) same ∙ map-sorted_by product_meaning product_lt old) c.sort_by.ensures.sorted;
    }
