use Rattle.cargo_toml_audit.proofs.Cited.{Text, contains_text, is_in, map, string_bytes, take, ◌≡◌}
use Rattle.cargo_toml_audit.proofs.members.sets.set_of.Given as goal

abbrev pub invariant-loop-text : goal.invariant-loop-text
invariant-loop-text l = (t : Text) → contains_text l.set t ≡ is_in (map string_bytes (take l.text-index l.texts)) t
