use Rattle.cargo_toml_features.proofs.Cited.{Listed, [], admitted, admitted_ascends, ap, cut, cut_is_admitted, listed_of, map, rules, sym, ◌∙◌, ◌≡◌}
use Rattle.cargo_toml_features.proofs.Listings.{looked_up, sorted_ascends, sorted_entry, names_listed, one_listing}
use Rattle.cargo_toml_features.proofs.admit.hashed_listings.Goals as goal

pub returns-clause-listed : goal.returns-clause-listed
returns-clause-listed g c = (
  map sorted_entry c.in_ok-sorted.sorted.entries,
  record {
    in_order = sorted_ascends c.in_ok-sorted.sorted.entries c.len.ensures.ordered;
    holds = λ f. looked_up f c.in_ok-sorted.sorted.entries ∙ c.in_ok-sorted.ensures f;
  },
)

pub returns-clause-all : goal.returns-clause-all
unfolding returns-clause-listed
returns-clause-all g c = λ listed is.
    let es : Listed = map sorted_entry c.in_ok-sorted.sorted.entries in
    let own = (returns-clause-listed g c).1 in
    let all : listed_of c.loop-name.listings.items ≡ cut c.args.limit [] es = search rules in
    all ∙ cut_is_admitted c.args.limit es own.in_order
    ∙ ap (admitted c.args.limit) (one_listing es listed own.in_order is.in_order (λ f. own.holds f ∙ sym (is.holds f)))

pub returns-clause-ascend : goal.returns-clause-ascend
returns-clause-ascend g c = search (rules, sorted_entry, sorted_ascends, cut, cut_is_admitted, names_listed, admitted_ascends)
