use Rattle.std.proofs.Common.{Bor, ap, subst, sym, ◌∙◌, ◌∷◌}
use Rattle.std.specs.List.{flat_map}
use Rattle.json.specs.Token.{begin_object}
use Rattle.json.specs.Tree.{members_tokens}
use Rattle.serde_json.specs.Written.{members_outline}
use Rattle.cargo_toml.specs.Action.{Text}
use Rattle.cargo_toml.specs.Views.{value_at}
use Rattle.cargo_toml_check.specs.Listed.{row_at}
use Rattle.cargo_toml_answers.specs.Adding.{Adds, rows_tokens}
use Rattle.cargo_toml_answers.proofs.Adding.{leads_on, one, rows_both, rows_end, whole}
use Rattle.cargo_toml_answers.proofs.Placing.{found_ascend, rows_in_place}
use Rattle.cargo_toml_answers.proofs.listing.put_named.Goals as goal

pub loop-name-preserved : goal.loop-name-preserved
loop-name-preserved g c =
    let row = λ (k : Bor Text). row_at g.X.Put.json c.args.found.now k.now in
    let k = c.in-Some.name.now in
    let more = c.next.new.self in
    leads_on _ _ _ _ _ _ _ c.loop-name.invariant
    (ap (λ ks. rows_tokens (flat_map row ks)) c.in-Some.ensures.steps ∙ rows_both (row k) (flat_map row more)) c.in_ok-put_one.ensures

pub returns : goal.returns
returns g c =
    let row = λ (k : Bor Text). row_at g.X.Put.json c.args.found.now k.now in
    let ks = c.args.names.now.keys in
    let all = whole _ _ _ _ _ _ _ _ (one c.in_ok-begin_object.ensures) c.loop-name.invariant (ap (λ ks. rows_tokens (flat_map row ks)) c.in-None.ensures.steps.0) (one c.in_ok-end_object.ensures) in
    let up = found_ascend (λ k. k.now) g.X.Put.json (value_at c.args.found.now) ks c.iter-name-items.ensures.ordered in
    subst (λ ts. Adds c.args.out.now c.end_object.new.self (begin_object ∷ ts))
    (rows_end (flat_map row ks) ∙ ap (λ ms. members_tokens (members_outline ms)) (sym (rows_in_place (flat_map row ks) up))) all
