use Rattle.std.proofs.Common.{IfSome, codes, string_bytes, subst, ◌∷◌, ◌≡◌}
use Rattle.std.proofs.lemmas.Result.{IfOk-weaker}
use Rattle.json.specs.Token.{key}
use Rattle.serde_json.specs.Data.{member, no_members, object, string}
use Rattle.cargo_toml_answers.specs.Adding.{Adds, tokens_of}
use Rattle.cargo_toml_answers.specs.Refused.{HasWords, faults_json}
use Rattle.cargo_toml_answers.proofs.Adding.{one, text_is, then}
use Rattle.cargo_toml_answers.proofs.refusal.refused_json.Goals as goal

pub returns : goal.returns
returns g c =
    let ts = c.in_ok-faults.faults.items in
    let words = string_bytes c.in_ok-words.words in
    let faults = subst (λ ts. Adds c.begin_object.new.self c.put_list.new.out (key (codes "faults") ∷ tokens_of (faults_json ts))) c.as_slice.ensures.value c.in_ok-put_list.ensures in
    let said = subst (λ t. Adds c.put_list.new.out c.put_member.new.out (key (codes "words") ∷ tokens_of (string t))) c.as_str.ensures.value c.in_ok-put_member.ensures in
    let written = text_is c.text_of.result _ _ (object (member (codes "faults") (faults_json ts) (member (codes "words") (string words) no_members))) c.in_ok-out.ensures.before c.in_ok-out.ensures.tokens
    (then (one c.in_ok-begin_object.ensures) (then faults (then said (one c.in_ok-end_object.ensures)))) c.text_of.ensures in
    IfOk-weaker c.text_of.result _ (λ json. HasWords (λ words. IfSome (g.D.Display.output c.args.fault.now) (λ t. words ≡ t)) (string_bytes json))
    (λ json is. record { words = words; said = c.in_ok-words.ensures.ok; faults = ts; written = is }) written
