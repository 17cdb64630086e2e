use Rattle.cargo_toml_features.proofs.Cited.{bytes_eq-Decides, get_or-map, rules}
use Rattle.cargo_toml_features.proofs.texts.stands_at.Goals as goal

pub returns-then-place-all-clause-yes : goal.returns-then-place-all-clause-yes
returns-then-place-all-clause-yes g c = search (rules, get_or-map, bytes_eq-Decides)

pub returns-then-place-all-clause-no : goal.returns-then-place-all-clause-no
returns-then-place-all-clause-no g c = search (rules, bytes_eq-Decides, get_or-map)
