use Rattle.std.proofs.Common.{◌≡◌, ◌+◌, ◌-◌, ◌≤◌, length}
use Rattle.cargo_toml_resolve.{specs.Numbers.unmet, proofs.Steps.Walks}
use Rattle.cargo_toml_resolve.proofs.walk.passing.Given as goal

abbrev pub invariant-loop-next : goal.invariant-loop-next
invariant-loop-next l = record {
  walks : Walks l.edges l.is_removed l.fn.start l.next l.found.items l.met;
  len : length l.met ≡ length l.fn.met;
  within : l.next ≤ length l.found.items;
}

abbrev pub decreases-loop-next : goal.decreases-loop-next
decreases-loop-next l = (length l.found.items + unmet l.met) - l.next
