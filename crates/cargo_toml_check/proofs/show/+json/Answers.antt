use Rattle.cargo_toml_check.proofs.Cited.{List, Value, [], ap, array, item, items_of, items_view, json_items, json_of, map, refl, rules, take_all, view, ◌∙◌, ◌∷◌, ◌≡◌}
use Rattle.cargo_toml_check.proofs.show.+json.Goals as goal

items_json : (vs : List Value) → items_of (map (λ v. json_of (view v)) vs) ≡ json_items (items_view vs)
items_json [] = refl
items_json (v ∷ vs) = ap (item (json_of (view v))) (items_json vs)

pub array_of-returns : goal.array_of-returns
array_of-returns t c =
    let vs = c.args.list.now.items in
    let same : c.deref-item-items.result.now ≡ vs = search rules in
    let whole = rw same at c.items-test.false in
    c.from.ensures ∙ ap array (ap items_of (c.items.invariant ∙ ap (map (λ v. json_of (view v))) (take_all c.items.item-index vs whole)) ∙ items_json vs)
