use Rattle.cargo_toml_check.proofs.Cited.{Bool, Text, answer_of, err_from_is_err_and, false, from_input, held, json_view, parsed_at, tells_of}
use Rattle.cargo_toml_check.proofs.files.listing_of.Goals as goal

pub returns-in_err-state-clause-refused : goal.returns-in_err-state-clause-refused
returns-in_err-state-clause-refused g c =
    let p = err_from_is_err_and c.from_residual.result c.from_residual.ensures.1 in
    rw p.1 (from_input _ p.0 p.2)

pub returns-clause-listed : goal.returns-clause-listed
returns-clause-listed g c =
    let m = held c.args.manifest.now in
    let made = c.new_with_hasher_and_filter-resolver.ensures in
    let keep : Text → Bool = λ x. false in
    let tells = tells_of _ _ _ keep made.kept (λ n r answer. answer.says.met) in
    record {
      features = c.in_ok-features.features;
      resolved = parsed_at keep (answer_of c.in_ok-features.features) made.limit m (c.in_ok-features.ensures.resolved.told keep tells);
      listing = json_view c.in_ok-listing.listing;
      exact = c.in_ok-listing.ensures;
      printed = c.in_ok-to_string.ensures.order;
    }
