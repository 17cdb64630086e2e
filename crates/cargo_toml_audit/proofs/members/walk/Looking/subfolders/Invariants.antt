use Rattle.cargo_toml_audit.proofs.Cited.{OnDisks, drop, filter, is_folder, map, path_join, string_bytes, subfolders, ◌++◌, ◌≡◌}
use Rattle.cargo_toml_audit.proofs.members.walk.Looking.subfolders.Given as goal

abbrev pub invariant-loop-name : goal.invariant-loop-name
invariant-loop-name g l =
    OnDisks (λ d. map string_bytes l.all.items ++ filter (λ p. is_folder (d.there p)) (map (path_join l.folder) (map string_bytes (drop l.name-index l.name-items))) ≡ subfolders d l.folder)
    l.fn.self.looks l.self.looks
