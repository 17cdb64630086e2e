use Rattle.cargo_toml_bench.proofs.Cited.{IfOk-weaker, IsParsed, MAX_ITEMS, answer_of, manifest_meaning, true}
use Rattle.cargo_toml_bench.proofs.whole.resolve_whole.Goals as goal

pub returns-clause-resolved : goal.returns-clause-resolved
returns-clause-resolved g c =
    let m = manifest_meaning (λ m. m) c.args.manifest.now in
    IfOk-weaker c.resolve_by.result _ (λ a. IsParsed MAX_ITEMS m (λ _. true) (answer_of a))
    (λ a by. by (λ _. true) (λ n r answer. answer.says.met))
    c.resolve_by.ensures.resolved
