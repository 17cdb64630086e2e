-- What each law is proved by.
use Rattle.cargo_toml_graph.proofs.{AgainstAll.keeps_enabling, AgainstAll.loses_nothing, Closure.none_left, Edges.unremoved_is, Elimination.all_taken_out, InByteOrder.passed_complete}
use Rattle.cargo_toml_graph.proofs.{JoinLaws.join_in_any_order, JoinLaws.join_option_in_any_order, JoinLaws.join_option_none, Lists.names_are_named, PassedBins.bins_complete}
use Rattle.cargo_toml_graph.proofs.{Settled.order_free, Settled.resolution_settled, WorkedExamples.ring_enables}

pub ruleset theorems = (keeps_enabling, loses_nothing, none_left, unremoved_is, all_taken_out, passed_complete, join_in_any_order, join_option_in_any_order, join_option_none, names_are_named, bins_complete, order_free, resolution_settled, ring_enables)
