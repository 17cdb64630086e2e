use Rattle.cargo_toml_lint.proofs.Cited.{◌<◌, ◌≡◌, HasEdges, IsWhole, Stands, ℕ}
use Rattle.cargo_toml_lint.proofs.reach.reach_all.Given as goal

abbrev pub invariant-loop-x : goal.invariant-loop-x
invariant-loop-x l = record {
  whole : IsWhole l.reach;
  next : l.reach.next ≡ l.initial.reach.next;
}

abbrev pub invariant-loop-own : goal.invariant-loop-own
invariant-loop-own l = record {
  whole : IsWhole l.reach;
  next : l.reach.next ≡ l.initial.reach.next;
  settled : (a : ℕ) → a < l.own → HasEdges l.reach a → Stands l.reach a;
}
