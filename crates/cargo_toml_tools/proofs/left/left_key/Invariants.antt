use Rattle.cargo_toml_tools.proofs.Cited.{◌≡◌, drop, first_of, left_key, map}
use Rattle.cargo_toml_tools.proofs.left.left_key.Given as goal

abbrev pub invariant-loop-key : goal.invariant-loop-key
invariant-loop-key l =
    first_of left_key (map (λ r. (r.0.now, r.1)) (drop l.key-index l.rows))
    ≡ first_of left_key (map (λ r. (r.0.now, r.1)) l.rows)
