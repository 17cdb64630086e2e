use Rattle.cargo_toml_graph.proofs.RedirectsInOrder.{redirect_by_bytes}
use Rattle.cargo_toml_graph.proofs.theory.elimination.redirects_are_names_in_turn.Goals as goal

pub returns : goal.returns
returns c = λ t m before r after start there ascending x. redirect_by_bytes t before r after m start there ascending x
