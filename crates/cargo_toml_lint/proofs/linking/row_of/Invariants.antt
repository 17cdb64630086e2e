use Rattle.cargo_toml_lint.proofs.Cited.{◌↔◌, Among, held_names, item_of, list_any, map, Passes, string_bytes, take, turns_to, ℕ}
use Rattle.cargo_toml_lint.proofs.linking.row_of.Given as goal

abbrev pub invariant-loop-text : goal.invariant-loop-text
invariant-loop-text l = (b : ℕ) → Among l.row.items b ↔ Passes l.names
    (λ x. list_any (turns_to (held_names l.known).optional x)
    (map item_of (map string_bytes (take l.text-index l.texts)))) b
