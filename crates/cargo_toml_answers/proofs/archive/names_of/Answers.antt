use Rattle.std.proofs.Common.{arith, string_bytes, true}
use Rattle.std.proofs.lemmas.Map.Text.{hash_set_updates_text}
use Rattle.cargo_toml_answers.proofs.Gaining.{has_more}
use Rattle.cargo_toml_answers.proofs.archive.names_of.Goals as goal

pub loop-text-preserved : goal.loop-text-preserved
loop-text-preserved c = λ t.
    let bs = string_bytes c.in_ok-from_str.field-0 in
    has_more c.args.texts.now c.loop-text.text-index bs t (omega arith) c.in_ok-from_str.ensures.ok _ _ (c.loop-text.invariant t)
    (hash_set_updates_text bs c.loop-text.set c.insert.new.self true c.in_ok-insert.ensures.updates t)
