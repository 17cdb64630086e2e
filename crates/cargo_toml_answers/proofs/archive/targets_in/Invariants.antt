use Rattle.std.proofs.Common.{map, string_bytes, ◌++◌, ◌≡◌}
use Rattle.std.specs.List.{filter_map}
use Rattle.cargo_toml_answers.specs.Archived.{target_in}
use Rattle.cargo_toml_answers.proofs.archive.targets_in.Given as goal

abbrev pub invariant-loop-path : goal.invariant-loop-path
invariant-loop-path l =
    map (λ t. t.now) l.targets.items ++ filter_map (target_in l.folder) (map string_bytes l.path-iterator)
    ≡ filter_map (target_in l.folder) (map string_bytes l.files.keys)
