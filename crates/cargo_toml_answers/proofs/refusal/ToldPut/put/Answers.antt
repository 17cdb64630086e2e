use Rattle.std.proofs.Common.{ap, codes, subst, ◌∙◌, ◌∷◌}
use Rattle.std.specs.Str.{trim_end}
use Rattle.json.specs.Token.{key}
use Rattle.serde_json.specs.Data.{string}
use Rattle.cargo_toml_answers.specs.Adding.{Adds, tokens_of}
use Rattle.cargo_toml_answers.proofs.Adding.{one, then}
use Rattle.cargo_toml_answers.proofs.refusal.ToldPut.put.Goals as goal

pub returns : goal.returns
returns c =
    let named = subst (λ t. Adds c.put_member.new.out c.put_member-2.new.out (key (codes "key") ∷ tokens_of (string t))) c.as_str.ensures.value c.in_ok-put_member-2.ensures in
    let words = subst (λ t. Adds c.put_member-3.new.out c.put_member-4.new.out (key (codes "words") ∷ tokens_of (string t)))
    (c.trim_end.ensures.trim ∙ ap trim_end c.as_str-2.ensures.value) c.in_ok-put_member-4.ensures in
    then (one c.in_ok-begin_object.ensures) (then c.in_ok-put_member.ensures (then named (then c.in_ok-put_member-3.ensures
    (then words (one c.in_ok-end_object.ensures)))))
