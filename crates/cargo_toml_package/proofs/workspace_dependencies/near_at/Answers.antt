use Rattle.std.proofs.Common.{rules}
use Rattle.cargo_toml_package.proofs.Near.{first_known, left_known}
use Rattle.cargo_toml_package.proofs.workspace_dependencies.near_at.Goals as goal

pub returns-then-eq-clause-found : goal.returns-then-eq-clause-found
returns-then-eq-clause-found c = λ entries known.
    first_known entries c.args.key.now (c.in_ok-at.at.now, c.in_ok-at.dependency.now) c.loop.near c.next.new.self
    c.in_ok-at.ensures.steps (search rules) (c.loop.invariant entries known)

pub returns-then-eq-clause-near : goal.returns-then-eq-clause-near
returns-then-eq-clause-near c = λ entries known.
    left_known entries (c.in_ok-at.at.now, c.in_ok-at.dependency.now) c.loop.near c.next.new.self c.in_ok-at.ensures.steps (c.loop.invariant entries known)

pub loop-preserved : goal.loop-preserved
loop-preserved c = λ entries known.
    left_known entries (c.in_ok-at.at.now, c.in_ok-at.dependency.now) c.loop.near c.next.new.self c.in_ok-at.ensures.steps (c.loop.invariant entries known)
