use Rattle.cargo_toml_features.proofs.Cited.{[], cut, detail_of, details_listed, listed_in, listed_of, map, map_meaning, named_details, ◌≡◌}
use Rattle.cargo_toml_features.proofs.Listings.{listed_entry}
use Rattle.cargo_toml_features.proofs.admit.listings.Given as goal

abbrev pub invariant-loop-name : goal.invariant-loop-name
invariant-loop-name l = record {
  listed : cut l.limit (listed_of l.listings.items) (map listed_entry l.name-iterator) ≡ cut l.limit [] (listed_in l.table);
  details : named_details l.listings.items ≡ details_listed (listed_of l.listings.items) (map_meaning detail_of l.details);
}
