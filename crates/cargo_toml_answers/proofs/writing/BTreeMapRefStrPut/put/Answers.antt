use Rattle.std.proofs.Common.{ap, map, subst, sym, ◌∙◌, ◌∷◌}
use Rattle.json.specs.Token.{begin_object}
use Rattle.json.specs.Tree.{members_tokens}
use Rattle.serde_json.specs.Written.{members_outline}
use Rattle.cargo_toml_answers.specs.Adding.{Adds, rows_tokens}
use Rattle.cargo_toml_answers.proofs.Adding.{leads_on, one, rows_end, whole}
use Rattle.cargo_toml_answers.proofs.Placing.{entries_ascend, rows_ascend, rows_in_place}
use Rattle.cargo_toml_answers.proofs.writing.BTreeMapRefStrPut.put.Goals as goal

pub loop-name-preserved : goal.loop-name-preserved
loop-name-preserved g c =
    leads_on _ _ _ _ _ _ _ c.loop-name.invariant (ap (λ es. rows_tokens (map (λ e. (e.0.now, g.X.Put.json e.1)) es)) c.in-Some.ensures.steps) c.in_ok-put_member.ensures

pub returns : goal.returns
returns g c =
    let es = c.args.self.now.entries in
    let all = whole _ _ _ _ _ _ _ _ (one c.in_ok-begin_object.ensures) c.loop-name.invariant (ap (λ es. rows_tokens (map (λ e. (e.0.now, g.X.Put.json e.1)) es)) c.in-None.ensures.steps.0) (one c.in_ok-end_object.ensures) in
    let up = rows_ascend (λ e. e.0.now) (λ e. g.X.Put.json e.1) es (entries_ascend (λ k. k.now) es c.iter-name-items.ensures.ordered) in
    subst (λ ts. Adds c.args.out.now c.end_object.new.self (begin_object ∷ ts))
    (rows_end (map (λ e. (e.0.now, g.X.Put.json e.1)) es) ∙ ap (λ ms. members_tokens (members_outline ms)) (sym (rows_in_place (map (λ e. (e.0.now, g.X.Put.json e.1)) es) up))) all
