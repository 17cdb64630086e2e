use Rattle.cargo_toml_graph.proofs.Lists.{joined_is_join}
use Rattle.cargo_toml_graph.proofs.theory.joins.lists_say_what_their_items_say.Goals as goal

pub returns-clause-action : goal.returns-clause-action
returns-clause-action c = joined_is_join
