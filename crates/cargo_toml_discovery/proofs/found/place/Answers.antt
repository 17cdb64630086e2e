use Rattle.cargo_toml_discovery.proofs.Cited.{List, Name, None, Offered, Option, ProductMeaning, Some, ap, append_assoc, btree_map_updates_str, bytes_eq, cond, map, map_push, offer_parts, option_copied, option_map, product_meaning, refl, string_bytes, sym, waiting_in, ◌++◌, ◌∙◌, ◌≡◌}
use Rattle.cargo_toml_discovery.proofs.Placed.{Lent, seen_twice, shown, walk-step}
use Rattle.cargo_toml_discovery.proofs.Lookups.{map-cond}
use Rattle.cargo_toml_discovery.proofs.found.place.Goals as goal

there : (o : Option Offered) (p : Name × Name) → option_map offer_parts o ≡ Some p → (q : Offered) × (o ≡ Some q) × (offer_parts q ≡ p)
there None p h = cc
there (Some q) p h = let same : offer_parts q ≡ p = cc in (q, refl, same)

pub returns : goal.returns
returns c = record {
  ok = λ o os offered.
      let q = there o _ (offered ∙ ap (option_map _) c.in-Some.is) in
      let is = q.2 in
      let w : Name → Option ProductMeaning = waiting_in c.args.placing.now.still in
      let w' : Name → Option ProductMeaning = waiting_in c.remove-waiting.new.self in
      let found : Option ProductMeaning = option_map product_meaning (option_copied c.remove-waiting.result) in
      let p : ProductMeaning = product_meaning c.in_ok-product.product in
      let bs : Name = string_bytes c.in-Some.offer.name in
      let key = c.as_str.ensures.value in
      let finds : found ≡ w bs = seen_twice c.remove-waiting.result ∙ ap (λ (r : Lent). shown r) c.remove-waiting.ensures.value ∙ ap w key in
      let after : (n : Name) → w' n ≡ cond (bytes_eq bs n) None (w n) = λ n.
      ap (λ (r : Lent). shown r) (btree_map_updates_str c.as_str.result.now c.args.placing.now.still c.remove-waiting.new.self None c.remove-waiting.ensures.updates n)
      ∙ map-cond (λ q. product_meaning q.now) (bytes_eq c.as_str.result.now n) None _ ∙ ap (λ (t : Name). cond (bytes_eq t n) None (w n)) key in
      let step = walk-step c.args.placing.now.edition w w' q.0 os bs found p (ap (λ (r : Name × Name). r.0) is) finds (c.in_ok-product.ensures q.0 is) after in
      rw (q.1, c.in_ok-push.ensures.items, map_push product_meaning c.args.placing.now.list.items c.in_ok-product.product, append_assoc)
      (ap (λ (qs : List ProductMeaning). map product_meaning c.args.placing.now.list.items ++ qs) (sym step));
}
