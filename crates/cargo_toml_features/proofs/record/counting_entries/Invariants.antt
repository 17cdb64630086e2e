use Rattle.cargo_toml_features.proofs.Cited.{counts_alone, entry_of, is_mentioned_in, is_optional, map, take, ◌||◌, ◌≡◌}
use Rattle.cargo_toml_features.proofs.GatheredKeys.{Gathers}
use Rattle.cargo_toml_features.proofs.record.counting_entries.Given as goal

abbrev pub invariant-loop-entry : goal.invariant-loop-entry
invariant-loop-entry l = record {
  flags : l.flags.items ≡ map (counts_alone (is_mentioned_in l.mentions)) (map entry_of (take l.entry-index l.entries));
  keys : Gathers (λ k e. is_optional e.dependency || is_mentioned_in l.mentions k) (map (λ t. t.now) l.keys.items) (map entry_of (take l.entry-index l.entries));
}
