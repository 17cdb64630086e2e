use Rattle.std.proofs.Common.{Global, List, String, [], ap, arith, drop, map, refl, rules, string_bytes, subst, sym, ◌+◌, ◌∙◌, ◌∷◌, ◌≡◌}
use Rattle.std.proofs.lemmas.List.{drop_all, drop_more}
use Rattle.json.specs.Token.{begin_array, begin_object, key}
use Rattle.json.specs.Tree.{items_tokens, members_tokens}
use Rattle.serde_json.specs.Data as json
use Rattle.serde_json.specs.View.{items_of}
use Rattle.serde_json.specs.Written.{items_outline, members_outline}
use Rattle.toml.specs.View.{items_view, members_view, view}
use Rattle.toml.specs.declared.value.Value.{Value}
use Rattle.cargo_toml_answers.specs.Adding.{Adds, rows_tokens, tokens_of}
use Rattle.cargo_toml_tools.specs.IndexEntries.{with_rows}
use Rattle.cargo_toml_check.specs.Shown.{json_items, json_of, with_json}
use Rattle.cargo_toml_answers.proofs.Adding.{Row, leads_on, one, rows_end, then, values_end, values_tokens, whole}
use Rattle.cargo_toml_answers.proofs.Placing.{entries_ascend, rows_ascend, rows_in_place}
use Rattle.cargo_toml_answers.proofs.showing.+put.Goals as goal

abbrev value_json : Value → json.Data
value_json v = json_of (view v)

items_json : (vs : List Value) → items_of (map value_json vs) ≡ json_items (items_view vs)
items_json [] = refl
items_json (v ∷ vs) = ap (json.item (value_json v)) (items_json vs)

abbrev row_of : String Global × Value → Row
row_of e = (string_bytes e.0, value_json e.1)

json_rows : (es : List (String Global × Value)) (js : json.Members) → with_json (members_view es) js ≡ with_rows (map row_of es) js
json_rows [] js = refl
json_rows (e ∷ es) js = json_rows es (json.put (string_bytes e.0) (value_json e.1) js)

pub put_array-items-preserved : goal.put_array-items-preserved
put_array-items-preserved t c =
    let i = c.items.item-index in
    let xs = c.deref-item-items.result.now in
    let x = c.item-item.result in
    let here : drop i xs ≡ x ∷ drop (i + 1) xs = drop_more xs i x (omega arith) ∙ ap (λ y. y ∷ drop (i + 1) xs) (sym c.item-item.is) in
    leads_on _ _ _ _ _ _ _ c.items.invariant (ap (λ vs. values_tokens (map value_json vs)) here) c.in_ok-put_value.ensures

pub put_array-returns : goal.put_array-returns
put_array-returns t c =
    let i = c.items.item-index in
    let xs = c.deref-item-items.result.now in
    let none : drop i xs ≡ [] = drop_all i xs (omega arith) in
    let all = whole _ _ _ _ _ _ _ _ (one c.in_ok-begin_array.ensures) c.items.invariant (ap (λ vs. values_tokens (map value_json vs)) none) (one c.in_ok-end_array.ensures) in
    subst (λ ts. Adds c.args.out.now c.end_array.new.self (begin_array ∷ ts))
    (values_end (map value_json xs) ∙ ap (λ ds. items_tokens (items_outline ds)) (items_json xs ∙ ap (λ vs. json_items (items_view vs)) c.deref-item-items.ensures.value)) all

pub put_table-members-preserved : goal.put_table-members-preserved
put_table-members-preserved t c =
    let value = c.in_ok-put_value.ensures in
    let step = subst (λ k. Adds c.members.out c.put_value.new.out (key k ∷ tokens_of (value_json c.in-Some.member.now))) c.as_str.ensures.value (then (one c.in_ok-key.ensures) value) in
    record {
      next = search rules;
      end = search rules;
      leads = leads_on _ _ _ _ _ _ _ c.members.invariant.leads (ap (λ es. rows_tokens (map row_of es)) c.in-Some.ensures.steps) step;
    }

pub put_table-returns : goal.put_table-returns
put_table-returns t c =
    let es = c.args.tree.now.entries in
    let all = whole _ _ _ _ _ _ _ _ (one c.in_ok-begin_object.ensures) c.members.invariant.leads (ap (λ es. rows_tokens (map row_of es)) c.in-None.ensures.steps.0) (one c.in_ok-end_object.ensures) in
    let up = rows_ascend (λ e. string_bytes e.0) (λ e. value_json e.1) es (entries_ascend string_bytes es c.iter-key-items.ensures.ordered) in
    subst (λ ts. Adds c.args.out.now c.end_object.new.self (begin_object ∷ ts))
    (rows_end (map row_of es) ∙ ap (λ ms. members_tokens (members_outline ms)) (sym (json_rows es json.no_members ∙ rows_in_place (map row_of es) up))) all
