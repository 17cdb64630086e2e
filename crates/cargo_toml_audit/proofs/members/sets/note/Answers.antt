use Rattle.cargo_toml_audit.proofs.Cited.{arith, btree_set_updates_text, or-false, string_bytes, true}
use Rattle.cargo_toml_audit.proofs.members.sets.note.Goals as goal

pub returns-then-not-is_one : goal.returns-then-not-is_one
returns-then-not-is_one c = λ t. grind (arith, or-false, c.if-not-is_one.true)

pub returns : goal.returns
returns c = λ t.
    let updated = btree_set_updates_text (string_bytes c.in_ok-from_str.field-0) c.args.set.now c.insert.new.self true c.in_ok-insert.ensures.updates t in
    grind (arith, updated, c.in_ok-from_str.ensures.ok, c.if-not-is_one.false)
