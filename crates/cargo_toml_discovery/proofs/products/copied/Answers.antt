use Rattle.cargo_toml_discovery.proofs.Cited.{IsOptionCopy, MatchResult-weaker, None, Option, Some, ap, option_same, product_meaning, refl, string_bytes, zip_same, ◌≡◌}
use Rattle.cargo_toml_parts.specs.contracts.product.ProductClone.TheImpl as clone
use Rattle.cargo_toml_parts.specs.declared.product.Product as code
use Rattle.cargo_toml_discovery.proofs.products.copied.Goals as goal

itself : {X : Type 0} (x y : Option X) → IsOptionCopy (λ a b. b ≡ a) x y → y ≡ x
itself None None h = refl
itself None (Some y) h = absurd h
itself (Some x) None h = absurd h
itself (Some x) (Some y) h = ap Some h

product_same : (p q : code.Product) → clone.ghosts.is_clone p q → product_meaning q ≡ product_meaning p
product_same p q (crate_type, (required_features, (path, (name, (test, (doctest, (bench, (doc, (plugin, (proc_macro, (harness, edition))))))))))) =
    let types = zip_same string_bytes _ (λ s t e. e) p.crate_type.items q.crate_type.items crate_type.0 in
    let features = zip_same string_bytes _ (λ s t e. e) p.required_features.items q.required_features.items required_features.0 in
    let path_is = option_same string_bytes _ (λ s t e. e) p.path q.path path in
    let name_is = option_same string_bytes _ (λ s t e. e) p.name q.name name in
    let edition_is = itself p.edition q.edition edition in
    cc

pub returns : goal.returns
returns c = MatchResult-weaker c.clone.result c.clone.ensures.cases (λ q h. product_same c.args.product.now q h) (λ _ _. tt)
