use Rattle.cargo_toml_lint.proofs.Cited.{◌∙◌, answer_of, Bool, IfOk-weaker, IsParsed, manifest_meaning, Text, true}
use Rattle.cargo_toml_lint.proofs.Resolving.{parsed_at, tells_of}
use Rattle.cargo_toml_lint.proofs.linting.resolve_whole.Goals as goal

pub returns-clause-resolved : goal.returns-clause-resolved
returns-clause-resolved g c =
    let m = manifest_meaning (λ m. m) c.args.manifest.now in
    let made = c.new_with_hasher_and_filter-resolver.ensures in
    let limited = c.with_max_items-limited.ensures in
    let keep : Text → Bool = λ x. true in
    let tells = tells_of _ _ _ keep (limited.filter ∙ made.kept) (λ n r answer. answer.says.met) in
    IfOk-weaker c.parse.result _ (λ a. IsParsed c.args.limit m keep (answer_of a))
    (λ a by. parsed_at keep (answer_of a) limited.limit m (by.told keep tells))
    c.parse.ensures.resolved
