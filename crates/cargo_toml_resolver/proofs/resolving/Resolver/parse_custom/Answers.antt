use Rattle.std.proofs.Common.{◌≡◌, [], map, sym, ap, subst, ◌∙◌}
use Rattle.cargo_toml_graph.specs.Admitted.{Listed, admitted}
use Rattle.cargo_toml_features.specs.{Marks.details_listed, Marks.named_details, Views.listed_of, Views.answer_of, Views.entry_of, Resolved.table_of}
use Rattle.cargo_toml_resolve.specs.Removed.{IsAnswerBy, IsRemovedBy}
use Rattle.cargo_toml_resolve.proofs.{AgainstAll.agrees, ByFilter.answer_by_listed}
use Rattle.cargo_toml_resolver.specs.Filtered.{filter_of, limit_of}
use Rattle.cargo_toml_resolver.proofs.Hiding.{hides}
use Rattle.cargo_toml_resolver.proofs.resolving.Resolver.parse_custom.Goals as goal

pub returns-clause-resolved : goal.returns-clause-resolved
returns-clause-resolved g c = λ listed is.
    let a = answer_of c.in_ok-resolve.field-0 in
    let filter = filter_of c.args.self.now in
    let es = map entry_of c.args.dependencies.now in
    let ls = c.as_slice.result.now in
    let told : named_details ls ≡ details_listed (listed_of ls) [] =
    subst (λ xs. named_details xs ≡ details_listed (listed_of xs) []) (sym c.as_slice.ensures.value) c.in_ok-listings.ensures.details in
    let fs = admitted (limit_of c.args.self.now) listed in
    let answered : IsAnswerBy g.F.Fn filter fs es [] (λ _. []) a =
    subst (λ (fs : Listed). IsAnswerBy g.F.Fn filter fs es [] (λ _. []) a)
    (ap listed_of c.as_slice.ensures.value ∙ c.in_ok-listings.ensures.all listed is)
    (answer_by_listed (listed_of ls) es [] (λ _. []) g.F.Fn filter a
    (subst (λ ds. IsAnswerBy g.F.Fn filter (listed_of ls) es ds (λ _. []) a) told c.in_ok-resolve.ensures.resolved)) in
    record { answered = answered; agreement = agrees fs es g.F.Fn filter a [] (λ _. []) answered }

pub returns-clause-hiding : goal.returns-clause-hiding
returns-clause-hiding g c = λ listed is.
    let fs = admitted (limit_of c.args.self.now) listed in
    let es = map entry_of c.args.dependencies.now in
    hides fs es [] (λ _. []) (IsRemovedBy g.F.Fn (filter_of c.args.self.now) (table_of fs es)) (answer_of c.in_ok-resolve.field-0) (returns-clause-resolved g c listed is).answered.answer
