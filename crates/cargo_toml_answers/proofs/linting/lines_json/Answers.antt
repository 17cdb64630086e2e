use Rattle.std.proofs.Common.{[], codes, string_bytes, subst, ◌++◌, ◌∷◌}
use Rattle.std.proofs.lemmas.Result.{IfOk-weaker}
use Rattle.json.specs.Token.{begin_array}
use Rattle.serde_json.specs.Data.{array, member, no_members, object}
use Rattle.serde_json.specs.View.{items_of}
use Rattle.cargo_toml_answers.specs.Adding.{Adds}
use Rattle.cargo_toml_answers.specs.Answered.{AreTold}
use Rattle.cargo_toml_answers.proofs.Adding.{none, one, text_is, then, values_both, values_end}
use Rattle.cargo_toml_answers.proofs.linting.lines_json.Goals as goal

pub loop-line-init : goal.loop-line-init
loop-line-init c = ([], none _)

pub loop-line-preserved : goal.loop-line-preserved
loop-line-preserved c =
    let before = c.loop-line.invariant in
    let added = c.in_ok-put_line.ensures in
    (before.0 ++ added.0 ∷ [], subst (Adds c.begin_array.new.self c.put_line.new.out) (values_both before.0 added.0) (then before.1 added.1))

pub returns : goal.returns
returns c =
    let told = c.loop-line.invariant in
    let list = subst (λ ts. Adds c.key.new.self c.end_array.new.self (begin_array ∷ ts)) (values_end told.0) (then (one c.in_ok-begin_array.ensures) (then told.1 (one c.in_ok-end_array.ensures))) in
    let written = text_is c.text_of.result _ _ (object (member (codes "findings") (array (items_of told.0)) no_members)) c.in_ok-out.ensures.before c.in_ok-out.ensures.tokens
    (then (one c.in_ok-begin_object.ensures) (then (one c.in_ok-key.ensures) (then list (one c.in_ok-end_object.ensures)))) c.text_of.ensures in
    IfOk-weaker c.text_of.result _ (λ json. AreTold (string_bytes json)) (λ json is. record { findings = told.0; printed = is }) written
