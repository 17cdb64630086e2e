use Rattle.std.proofs.Common.{codes, string_bytes}
use Rattle.std.proofs.lemmas.Result.{IfOk-weaker}
use Rattle.serde_json.specs.Data.{member, no_members, object, string}
use Rattle.cargo_toml_answers.specs.Refused.{TellsArgument}
use Rattle.cargo_toml_answers.proofs.Adding.{one, text_is, then}
use Rattle.cargo_toml_answers.proofs.refusal.argument_json.Goals as goal

pub returns : goal.returns
returns c =
    let written = text_is c.text_of.result _ _ (object (member (codes "words") (string c.args.words.now) no_members)) c.in_ok-out.ensures.before c.in_ok-out.ensures.tokens
    (then (one c.in_ok-begin_object.ensures) (then c.in_ok-put_member.ensures (one c.in_ok-end_object.ensures))) c.text_of.ensures in
    IfOk-weaker c.text_of.result _ (λ json. TellsArgument (string_bytes json)) (λ json is. (c.args.words.now, is)) written
