use Rattle.cargo_toml_features.proofs.Cited.{[], cut, details_listed, listed_of, map, named_details, ◌≡◌}
use Rattle.cargo_toml_features.proofs.Listings.{sorted_entry}
use Rattle.cargo_toml_features.proofs.admit.hashed_listings.Given as goal

abbrev pub invariant-loop-name : goal.invariant-loop-name
invariant-loop-name g l = record {
  listed : cut l.limit (listed_of l.listings.items) (map sorted_entry l.name-iterator) ≡ cut l.limit [] (map sorted_entry l.initial.name-iterator);
  details : named_details l.listings.items ≡ details_listed (listed_of l.listings.items) [];
}
