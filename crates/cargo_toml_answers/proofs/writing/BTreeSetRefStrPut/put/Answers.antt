use Rattle.std.proofs.Common.{Bor, ap, map, subst, ◌∙◌, ◌∷◌}
use Rattle.json.specs.Token.{begin_array}
use Rattle.json.specs.Tree.{items_tokens}
use Rattle.serde_json.specs.Data.{Data, string}
use Rattle.serde_json.specs.View.{items_of}
use Rattle.serde_json.specs.Written.{items_outline}
use Rattle.cargo_toml_answers.specs.Adding.{Adds}
use Rattle.cargo_toml.specs.Action.{Text}
use Rattle.cargo_toml_answers.proofs.Adding.{leads_on, one, texts_values, values_end, values_tokens, whole}
use Rattle.cargo_toml_answers.proofs.writing.BTreeSetRefStrPut.put.Goals as goal

abbrev text_json : Bor Text → Data
text_json t = string t.now

pub loop-text-preserved : goal.loop-text-preserved
loop-text-preserved c =
    leads_on _ _ _ _ _ _ _ c.loop-text.invariant (ap (λ ts. values_tokens (map text_json ts)) c.in-Some.ensures.steps) (one c.in_ok-string.ensures)

pub returns : goal.returns
returns c =
    let all = whole _ _ _ _ _ _ _ _ (one c.in_ok-begin_array.ensures) c.loop-text.invariant (ap (λ ts. values_tokens (map text_json ts)) c.in-None.ensures.steps.0) (one c.in_ok-end_array.ensures) in
    subst (λ ts. Adds c.args.out.now c.end_array.new.self (begin_array ∷ ts))
    (values_end (map text_json c.args.self.now.keys) ∙ ap (λ ds. items_tokens (items_outline (items_of ds))) (texts_values c.args.self.now.keys)) all
