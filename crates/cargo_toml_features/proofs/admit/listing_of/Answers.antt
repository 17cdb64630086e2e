use Rattle.cargo_toml_features.proofs.Listings.{detail_found}
use Rattle.cargo_toml_features.proofs.admit.listing_of.Goals as goal

pub returns-clause-detail : goal.returns-clause-detail
returns-clause-detail c = detail_found c.args.name.now c.args.details.now c.get.result c.get.ensures.value
