use Rattle.cargo_toml_resolve.proofs.Cited.{Text, action_at, cond, is_text_in, join_option, map, ◌≡◌}
use Rattle.cargo_toml_resolve.proofs.joining.add_actions.Given as goal

abbrev pub invariant-loop-key : goal.invariant-loop-key
invariant-loop-key l = (k : Text) → action_at l.own k ≡ cond (is_text_in (map (λ e. e.0.now) l.yielded) k) (join_option (action_at l.initial.own k) (action_at l.other k)) (action_at l.initial.own k)
