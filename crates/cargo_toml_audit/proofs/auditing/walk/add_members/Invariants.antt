use Rattle.cargo_toml_audit.proofs.Cited.{base_of, map, string_bytes, ◌≡◌}
use Rattle.cargo_toml_audit.proofs.Walking.{Walking}
use Rattle.cargo_toml_audit.proofs.auditing.walk.add_members.Given as goal

-- steps are taken alone: what was looked at stays
abbrev pub invariant-loop-place : goal.invariant-loop-place
invariant-loop-place g l =
    Walking (base_of l.root) (map string_bytes l.fn.first.items) l.walk l.fn.audit l.audit × (l.looking.looks ≡ l.fn.looking.looks)

abbrev pub decreases-loop-place : goal.decreases-loop-place
decreases-loop-place g l = l.looking.steps.left
