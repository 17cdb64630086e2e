use Rattle.cargo_toml_lint.proofs.Cited.{◌≡◌, has_key, key_of, map, set_has, take, Text}
use Rattle.cargo_toml_lint.proofs.known.set_of.Given as goal

abbrev pub invariant-loop-key : goal.invariant-loop-key
invariant-loop-key l =
    (k : Text) → set_has l.set k ≡ has_key l.marked (map key_of (take l.key-index l.keys)) k
