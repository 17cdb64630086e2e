use Rattle.cargo_toml_features.proofs.Cited.{Text, bytes_eq, keys_of, list_any, set_has, ◌||◌, ◌≡◌}
use Rattle.cargo_toml_features.proofs.texts.keys_in_order.Given as goal

abbrev pub invariant-loop-key : goal.invariant-loop-key
invariant-loop-key g l = (f : Text)
    → (set_has l.keys f || list_any (λ k. bytes_eq f k.now) l.key-iterator)
    ≡ list_any (λ k. bytes_eq f k.now) (keys_of l.found.entries)
