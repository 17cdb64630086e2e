use Rattle.cargo_toml_audit.proofs.Cited.{Text, [], contains_text, drop, is_in, map, picked, string_bytes, take, ◌++◌, ◌≡◌}
use Rattle.cargo_toml_audit.proofs.members.sets.picked.Given as goal

abbrev pub invariant-loop-text : goal.invariant-loop-text
invariant-loop-text l =
    ((t : Text) → contains_text l.seen t ≡ is_in (map string_bytes (take l.text-index l.texts)) t)
    × (map string_bytes l.all.items ++ picked l.again (map string_bytes (take l.text-index l.texts)) (map string_bytes (drop l.text-index l.texts)) ≡ picked l.again [] (map string_bytes l.texts))
