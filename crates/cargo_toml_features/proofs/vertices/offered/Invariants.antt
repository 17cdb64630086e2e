use Rattle.cargo_toml_features.proofs.Cited.{Text, entry_of, has_key, is_offered, map, take, ◌≡◌}
use Rattle.cargo_toml_features.proofs.vertices.offered.Given as goal

abbrev pub invariant-loop-entry : goal.invariant-loop-entry
invariant-loop-entry l = (q : Text) → has_key l.keys q ≡ is_offered (has_key l.acted.reserved) (map entry_of (take l.entry-index l.entries)) q
