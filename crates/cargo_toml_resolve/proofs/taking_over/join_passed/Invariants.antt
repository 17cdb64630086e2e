use Rattle.cargo_toml_resolve.proofs.Cited.{Among, DoesAt, IsJoin, Some, Text, action_at, take, ◌≡◌, ◌⊎◌}
use Rattle.cargo_toml_resolve.proofs.taking_over.join_passed.Given as goal

abbrev pub invariant-loop-b : goal.invariant-loop-b
invariant-loop-b l = (k : Text) → IsJoin (λ a. (action_at l.initial.own k ≡ Some a) ⊎ DoesAt l.features (Among (take l.b-index l.passed)) k a) (action_at l.own k)
