use Rattle.cargo_toml_features.proofs.Cited.{HaveSameNames, Listed, Text, entries_at, entry_of, is_mentioned, is_mentioned_in, map, recorded_at, recorded_of, take, ◌≡◌}
use Rattle.cargo_toml_features.proofs.record.record_dependencies.Given as goal

abbrev pub invariant-loop-entry : goal.invariant-loop-entry
invariant-loop-entry l = record {
  recorded : (listed : Listed) → ((k : Text) → is_mentioned_in l.mentions k ≡ is_mentioned listed k) →
      (k : Text) → recorded_at l.dependencies k ≡ recorded_of (entries_at listed (map entry_of (take l.entry-index l.entries)) k);
  place : l.place ≡ l.entry-index;
  same_names : HaveSameNames l.initial.dependencies l.dependencies;
}
