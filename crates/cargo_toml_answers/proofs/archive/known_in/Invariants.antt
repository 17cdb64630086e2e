use Rattle.std.proofs.Common.{filter, map, take, ◌≡◌}
use Rattle.cargo_toml_answers.specs.Archived.{stands_in}
use Rattle.cargo_toml_answers.proofs.archive.known_in.Given as goal

abbrev pub invariant-loop-name : goal.invariant-loop-name
invariant-loop-name l =
    map (λ t. t.now) l.known.items ≡ filter (stands_in l.files l.folder) (map (λ t. t.now) (take l.name-index l.names))
