use Rattle.cargo_toml_answers.specs.Answered.{rows_json}
use Rattle.cargo_toml_answers.proofs.Adding.{one, text_is, then}
use Rattle.cargo_toml_answers.proofs.documenting.rows_json.Goals as goal

pub returns : goal.returns
returns c = text_is c.text_of.result _ _ (rows_json c.args.rows.now) c.in_ok-out.ensures.before c.in_ok-out.ensures.tokens
    (then (one c.in_ok-begin_object.ensures) (then c.in_ok-put_list.ensures (one c.in_ok-end_object.ensures))) c.text_of.ensures
