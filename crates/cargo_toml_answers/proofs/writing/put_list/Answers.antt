use Rattle.std.proofs.Common.{[], ap, arith, drop, map, subst, sym, ◌+◌, ◌∙◌, ◌∷◌, ◌≡◌}
use Rattle.std.proofs.lemmas.List.{drop_all, drop_more}
use Rattle.json.specs.Token.{begin_array}
use Rattle.cargo_toml_answers.specs.Adding.{Adds}
use Rattle.cargo_toml_answers.proofs.Adding.{leads_on, one, then, values_end, values_tokens, whole}
use Rattle.cargo_toml_answers.proofs.writing.put_list.Goals as goal

pub loop-one-preserved : goal.loop-one-preserved
loop-one-preserved g c =
    let i = c.loop-one.one-index in
    let xs = c.args.list.now in
    let x = c.one-item.result in
    let here : drop i xs ≡ x ∷ drop (i + 1) xs = drop_more xs i x (omega arith) ∙ ap (λ y. y ∷ drop (i + 1) xs) (sym c.one-item.is) in
    leads_on _ _ _ _ _ _ _ c.loop-one.invariant (ap (λ ys. values_tokens (map g.X.Put.json ys)) here) c.in_ok-put.ensures

pub returns : goal.returns
returns g c =
    let i = c.loop-one.one-index in
    let xs = c.args.list.now in
    let none : drop i xs ≡ [] = drop_all i xs (omega arith) in
    let all = whole _ _ _ _ _ _ _ _ (one c.in_ok-begin_array.ensures) c.loop-one.invariant (ap (λ ys. values_tokens (map g.X.Put.json ys)) none) (one c.in_ok-end_array.ensures) in
    then (one c.in_ok-key.ensures) (subst (λ ts. Adds c.key.new.self c.end_array.new.self (begin_array ∷ ts)) (values_end (map g.X.Put.json xs)) all)
