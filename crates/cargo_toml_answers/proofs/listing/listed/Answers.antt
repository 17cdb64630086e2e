use Rattle.std.proofs.Common.{Bool, ap, rules, ◌∙◌, ◌≡◌}
use Rattle.std.specs.BTreeSet.{contains_text}
use Rattle.cargo_toml.specs.{Action.Text, Manifests.held, Views.answer_of}
use Rattle.cargo_toml_lint.proofs.Resolving.{parsed_at, tells_of}
use Rattle.cargo_toml_answers.proofs.listing.listed.Goals as goal

pub returns-clause-listed : goal.returns-clause-listed
returns-clause-listed c = λ keep same.
    let m = held c.args.manifest.now in
    let made = c.new_with_hasher_and_filter-resolver.ensures in
    let limited = c.with_max_items-limited.ensures in
    let kept : Text → Bool = λ t. contains_text c.args.kept t in
    let listing = c.in_ok-listing_json.ensures in
    record {
      features = c.in_ok-features.features;
      resolved = parsed_at keep (answer_of c.in_ok-features.features) limited.limit m (c.in_ok-features.ensures.resolved.told keep (tells_of _ _ _ keep (limited.filter ∙ made.kept) (λ n r answer.
          let met = answer.says.met in
          let is : r ≡ kept answer.shown.now = search rules in
          is ∙ ap kept answer.shows ∙ same n)));
      listing = listing.0;
      exact = rw c.is_cut-cut.ensures at listing.1.0;
      printed = listing.1.1;
    }
