use Rattle.std.proofs.{Common.rules, lemmas.List.get_or-map, lemmas.Slice.Eq.bytes_eq-Decides}
use Rattle.cargo_toml_features.proofs.places.stands_at.Goals as goal

pub returns-then-place-names : goal.returns-then-place-names
returns-then-place-names c = search (rules, get_or-map, bytes_eq-Decides)
