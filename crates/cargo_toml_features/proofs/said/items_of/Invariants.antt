use Rattle.cargo_toml_features.proofs.Cited.{item_of, listed_of, map, said_by, take, texts_in, ◌≡◌}
use Rattle.cargo_toml_features.proofs.said.items_of.Given as goal

abbrev pub invariant-loop-listing : goal.invariant-loop-listing
invariant-loop-listing l = map said_by l.items.items ≡ map item_of (texts_in (listed_of (take l.listing-index l.listings)))
