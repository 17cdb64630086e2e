use Rattle.cargo_toml_audit.proofs.Cited.{chars, drop, fold, read_all, read_more, read_of, ◌≡◌}
use Rattle.cargo_toml_audit.proofs.members.patterns.tokens_of.Given as goal

abbrev pub invariant-loop-c : goal.invariant-loop-c
invariant-loop-c l = fold read_more (read_of l.reading) (drop l.c-index l.c-items) ≡ read_all (chars l.name)
