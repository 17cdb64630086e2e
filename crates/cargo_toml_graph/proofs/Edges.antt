-- Edges as a test, and the resolution that a removal starts with.
use Rattle.std.proofs.Common.{◌↔◌, IsTrue, Option, refl, rules}
use Rattle.std.proofs.lemmas.Bool.{false≢true, or_cases, or_left, or_right, and_parts, and_from, not-true, not_from_false}
use Rattle.cargo_toml_graph.specs.{Action.Text, Action.Action, Graph.Table, Graph.Edge, Graph.IsPlain, Graph.IsUnremoved, Removal.acts_plainly, Removal.is_edge, Removal.unremoved}
use Rattle.cargo_toml_graph.proofs.Texts.{apart_false, apart_from}

plain_true : (o : Option Action) → IsTrue (acts_plainly o) ↔ IsPlain o
plain_true v0 = search (rules, false≢true, and_parts, not-true, and_from, not_from_false)

pub edge_true : (t : Table) (f g : Text) → IsTrue (is_edge t f g) ↔ Edge t f g
edge_true t f g = search (rules, and_parts, apart_from, or_cases, plain_true, and_from, apart_false, or_left, or_right)

pub unremoved_is : (t : Table) → IsUnremoved t (unremoved t)
unremoved_is t = record { has = λ f. refl; names = λ f x. refl; action = λ f k. refl; enabled_by = λ f e. edge_true t e f }
