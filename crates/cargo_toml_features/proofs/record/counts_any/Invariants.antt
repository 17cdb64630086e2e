use Rattle.cargo_toml_features.proofs.Cited.{counts_alone, entry_of, false, is_mentioned_in, list_any, map, take, ◌≡◌}
use Rattle.cargo_toml_features.proofs.record.counts_any.Given as goal

abbrev pub invariant-loop-entry : goal.invariant-loop-entry
invariant-loop-entry l = list_any (counts_alone (is_mentioned_in l.mentions)) (map entry_of (take l.entry-index l.entries)) ≡ false
