use Rattle.cargo_toml_features.proofs.Cited.{map_push, rules, string_bytes, take-map}
use Rattle.cargo_toml_features.proofs.{Listings.detail_of_one, Listings.listed_one, admit.add_listing.Goals.then-len-limit-via-then-len-limit}
use Rattle.cargo_toml_features.proofs.admit.add_listing.Goals as goal

pub returns-in_ok-push : goal.returns-in_ok-push
returns-in_ok-push c = search (rules, then-len-limit-via-then-len-limit, map_push, listed_one, string_bytes, take-map, detail_of_one)
