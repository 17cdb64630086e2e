use Rattle.std.proofs.Common.{codes, string_bytes, subst, ◌∷◌}
use Rattle.std.proofs.lemmas.Result.{IfOk-weaker}
use Rattle.json.specs.Token.{key}
use Rattle.serde_json.specs.Data.{member, no_members, object}
use Rattle.cargo_toml_answers.specs.Adding.{Adds, tokens_of}
use Rattle.cargo_toml_answers.specs.Answered.{IsChecked}
use Rattle.cargo_toml_answers.specs.Refused.{faults_json}
use Rattle.cargo_toml_answers.proofs.Adding.{one, text_is, then}
use Rattle.cargo_toml_answers.proofs.checking.faults_of.Goals as goal

pub returns : goal.returns
returns c =
    let ts = c.in_ok-faults.faults.items in
    let faults = subst (λ ts. Adds c.begin_object.new.self c.put_list.new.out (key (codes "faults") ∷ tokens_of (faults_json ts))) c.as_slice.ensures.value c.in_ok-put_list.ensures in
    let written = text_is c.text_of.result _ _ (object (member (codes "faults") (faults_json ts) no_members)) c.in_ok-out.ensures.before c.in_ok-out.ensures.tokens
    (then (one c.in_ok-begin_object.ensures) (then faults (one c.in_ok-end_object.ensures))) c.text_of.ensures in
    IfOk-weaker c.text_of.result _ (λ json. IsChecked c.args.text.now (string_bytes json))
    (λ json is. record { faults = ts; silent = (λ none. (c.in_ok-faults.ensures.silent.0 none).1, λ reads. c.in_ok-faults.ensures.silent.1 (c.requires, reads)); printed = is }) written
