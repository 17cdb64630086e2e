use Rattle.std.proofs.Common.{arith, ◌≡◌, ◌++◌, List, map, option_map, string_bytes, take, length, Option, Some, None, String, Global, Bor, refl, sym, ap, ◌∙◌}
use Rattle.std.{specs.Prelude.unwrap_or, proofs.Math.Seq.take-length}
use Rattle.cargo_toml_graph.specs.Action.{Text}
use Rattle.cargo_toml_features.specs.OwnBins.{bin_requirement}
use Rattle.cargo_toml_parts.specs.Products.{product_meaning}
use Rattle.cargo_toml_resolver.proofs.requirements.add_requirements.Goals as goal

text_or : (o : Option (Bor Text)) (d : Bor Text) → (unwrap_or o d).now ≡ unwrap_or (option_map (λ t. t.now) o) d.now
text_or None d = refl
text_or (Some t) d = refl

pub returns : goal.returns
returns c =
    let named : c.unwrap_or-name.result.now ≡ unwrap_or (product_meaning c.args.bin.now).name c.args.package_name.now =
    ap (λ (b : Bor Text). b.now) c.unwrap_or-name.ensures ∙ text_or c.as_deref.result c.args.package_name ∙ ap (λ o. unwrap_or o c.args.package_name.now) c.as_deref.ensures.value in
    let end : length c.deref-feature-items.result.now ≡ c.loop-feature.feature-index = omega (arith, c.loop-feature-test.false, c.loop-feature.auto.feature-index-end) in
    let all : take c.loop-feature.feature-index c.args.bin.now.required_features.items ≡ c.args.bin.now.required_features.items =
    ap (λ n. take n c.args.bin.now.required_features.items) (sym end ∙ ap length c.deref-feature-items.ensures.value) ∙ take-length c.args.bin.now.required_features.items in
    c.loop-feature.invariant
    ∙ ap (λ (fs : List (String Global)). map bin_requirement c.args.requirements.now.items ++ map {B = Text × Text} (λ (f : Text). (f, c.unwrap_or-name.result.now)) (map string_bytes fs)) all
    ∙ ap (λ (n : Text). map bin_requirement c.args.requirements.now.items ++ map {B = Text × Text} (λ (f : Text). (f, n)) (map string_bytes c.args.bin.now.required_features.items)) named
