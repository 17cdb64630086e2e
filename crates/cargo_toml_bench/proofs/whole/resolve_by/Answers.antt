use Rattle.cargo_toml_bench.proofs.Cited.{AreBinsComplete, Bool, Err, FilterTells, HasNameFilter, IfOk, IfOk-weaker, IsParsed, Ok, Result, Text, answer_of, is_removed, manifest_meaning, parsed_table, subst, sym, ◌∙◌}
use Rattle.cargo_toml_bench.proofs.Asked.{complete_at, parsed_at, tells_none}
use Rattle.cargo_toml_bench.proofs.whole.resolve_by.Goals as goal

-- what follows from two facts of an answer
both : {T E : Type 0} (r : Result T E) (P Q R : T → Type 0) → ((a : T) → P a → Q a → R a) → IfOk r P → IfOk r Q → IfOk r R
both (Ok a) P Q R from p q = from a p q
both (Err e) P Q R from p q = tt

pub new_with_hasher_and_filter-resolver-requires : goal.new_with_hasher_and_filter-resolver-requires
new_with_hasher_and_filter-resolver-requires g c = c.requires.filter c.in-Some.filter c.in-Some.is

pub parse-requires-2 : goal.parse-requires-2
parse-requires-2 g c =
    subst (λ f. HasNameFilter g.F.Fn f)
    (c.in-Some.is ∙ sym (c.with_max_items-2.ensures.filter ∙ c.new_with_hasher_and_filter-resolver.ensures.kept)) c.requires.filter

pub returns-in_default-clause-resolved : goal.returns-in_default-clause-resolved
returns-in_default-clause-resolved g c =
    let m = manifest_meaning (λ m. m) c.args.manifest.now in
    let limited = c.with_max_items.ensures in
    IfOk-weaker c.parse.result _ (λ a. (keep : Text → Bool) → FilterTells g.F.Fn c.args.filter keep → IsParsed c.args.max_items m keep (answer_of a))
    (λ a by keep tells. parsed_at keep (answer_of a) limited.limit m (by.told keep (tells_none _ c.with_max_items.result.should_keep_hidden_feature keep (limited.filter ∙ c.new.ensures.unfiltered)
    (subst (λ f. FilterTells g.F.Fn f keep) c.in_default.is tells))))
    c.parse.ensures.resolved

pub returns-in_default-clause-complete_bins : goal.returns-in_default-clause-complete_bins
returns-in_default-clause-complete_bins g c =
    let m = manifest_meaning (λ m. m) c.args.manifest.now in
    let limited = c.with_max_items.ensures in
    both c.parse.result _ _ (λ a. (keep : Text → Bool) → FilterTells g.F.Fn c.args.filter keep → AreBinsComplete c.args.max_items m (is_removed (parsed_table c.args.max_items m) keep) (answer_of a))
    (λ a by are keep tells. complete_at keep (answer_of a) limited.limit m (by.told keep (tells_none _ c.with_max_items.result.should_keep_hidden_feature keep (limited.filter ∙ c.new.ensures.unfiltered)
    (subst (λ f. FilterTells g.F.Fn f keep) c.in_default.is tells))) are)
    c.parse.ensures.resolved c.parse.ensures.complete_bins

pub returns-clause-resolved : goal.returns-clause-resolved
returns-clause-resolved g c =
    let m = manifest_meaning (λ m. m) c.args.manifest.now in
    let limited = c.with_max_items-2.ensures in
    IfOk-weaker c.parse-2.result _ (λ a. (keep : Text → Bool) → FilterTells g.F.Fn c.args.filter keep → IsParsed c.args.max_items m keep (answer_of a))
    (λ a by keep tells. parsed_at keep (answer_of a) limited.limit m (by.told keep
    (subst (λ f. FilterTells g.F.Fn f keep) (c.in-Some.is ∙ sym (limited.filter ∙ c.new_with_hasher_and_filter-resolver.ensures.kept)) tells)))
    c.parse-2.ensures.resolved

pub returns-clause-complete_bins : goal.returns-clause-complete_bins
returns-clause-complete_bins g c =
    let m = manifest_meaning (λ m. m) c.args.manifest.now in
    let limited = c.with_max_items-2.ensures in
    both c.parse-2.result _ _ (λ a. (keep : Text → Bool) → FilterTells g.F.Fn c.args.filter keep → AreBinsComplete c.args.max_items m (is_removed (parsed_table c.args.max_items m) keep) (answer_of a))
    (λ a by are keep tells. complete_at keep (answer_of a) limited.limit m (by.told keep
    (subst (λ f. FilterTells g.F.Fn f keep) (c.in-Some.is ∙ sym (limited.filter ∙ c.new_with_hasher_and_filter-resolver.ensures.kept)) tells)) are)
    c.parse-2.ensures.resolved c.parse-2.ensures.complete_bins
