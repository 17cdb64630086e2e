use Rattle.cargo_toml_lint.proofs.Cited.{append-nil, map_push, rules}
use Rattle.cargo_toml_lint.proofs.Items.{acting, naming}
use Rattle.cargo_toml_lint.proofs.known.add_acted.Goals as goal

pub returns-then-not-acts : goal.returns-then-not-acts
returns-then-not-acts c = search (rules, naming, append-nil)

pub returns : goal.returns
returns c = rw (← c.is_bad_text.ensures) (search (rules, acting, map_push))
