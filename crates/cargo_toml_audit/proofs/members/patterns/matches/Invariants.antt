use Rattle.cargo_toml_audit.proofs.Cited.{[], drop, length, map, matches, part_of, ◌-◌, ◌≡◌}
use Rattle.cargo_toml_audit.proofs.Matched.{row}
use Rattle.cargo_toml_audit.proofs.members.patterns.matches.Given as goal

abbrev pub invariant-loop-taken : goal.invariant-loop-taken
invariant-loop-taken l =
    l.reached.items ≡ row (matches (map part_of (drop (length l.pattern - l.taken) l.pattern))) [] l.name
