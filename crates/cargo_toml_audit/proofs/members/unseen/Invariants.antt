use Rattle.cargo_toml_audit.proofs.Cited.{map, string_bytes, unread_in, unseen, unseen_in, ◌++◌, ◌≡◌}
use Rattle.cargo_toml_audit.proofs.members.unseen.Given as goal

abbrev pub invariant-loop-path : goal.invariant-loop-path
invariant-loop-path l = map string_bytes l.all.items ++ unseen_in l.path-iterator ≡ unseen_in l.looks.there.entries

abbrev pub invariant-loop-folder : goal.invariant-loop-folder
invariant-loop-folder l = map string_bytes l.all.items ++ unread_in l.folder-iterator ≡ unseen l.looks
