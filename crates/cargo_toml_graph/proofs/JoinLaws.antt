-- Laws of the join of actions.
use Rattle.std.proofs.Common.{◌≡◌, Option, None, rules, arith}
use Rattle.std.proofs.Math.Bool.{and_assoc, and_comm, and_self, or_assoc, or_comm, or_self}
use Rattle.cargo_toml_graph.specs.Action.{Action, JoinsInAnyOrder, join, join_option}

join_assoc : (a b c : Action) → join (join a b) c ≡ join a (join b c)
join_assoc a b c = search (rules, and_assoc, or_assoc)

join_comm : (a b : Action) → join a b ≡ join b a
join_comm a b = search (rules, and_comm, or_comm)

join_self : (a : Action) → join a a ≡ a
join_self a = search (rules, and_self, or_self)

pub join_option_assoc : (a b c : Option Action) → join_option (join_option a b) c ≡ join_option a (join_option b c)
join_option_assoc v0 v1 v2 = search (rules, join_assoc)

pub join_option_comm : (a b : Option Action) → join_option a b ≡ join_option b a
join_option_comm v0 v1 = search (rules, join_comm)

pub join_option_self : (a : Option Action) → join_option a a ≡ a
join_option_self v0 = grind (arith, join_self)

pub join_option_none : (a : Option Action) → join_option a None ≡ a
join_option_none v0 = grind arith

pub join_in_any_order : JoinsInAnyOrder join
join_in_any_order = record { associative = join_assoc; commutative = join_comm; idempotent = join_self }

pub join_option_in_any_order : JoinsInAnyOrder join_option
join_option_in_any_order = record { associative = join_option_assoc; commutative = join_option_comm; idempotent = join_option_self }
