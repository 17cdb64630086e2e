use Rattle.cargo_toml_bench.proofs.Cited.{Answer, AreAlike, Bool, IsParsed, IsTrue, MAX_ITEMS, ManifestMeaning, Text, admitted, answer_of, is_removed, manifest_meaning, own_of, parsed_entries, parsed_table, passed_once, requirements, rules, settled, ℕ}
use Rattle.cargo_toml_bench.proofs.bodies.resolve_by_both.Goals as goal

-- Two answers to one manifest.
module _ {M : Type 0} (limit : ℕ) (m : ManifestMeaning M) (keep : Text → Bool) (a b : Answer) where
  parsed_alike : IsParsed limit m keep a → IsParsed limit m keep b → AreAlike a b
  parsed_alike h k =
      let t = parsed_table limit m in
      let own = own_of (requirements m) in
      record {
        agree = search (rules, settled);
        bins = λ f there. passed_once t (λ r. IsTrue (is_removed t keep r)) own a.bins b.bins
            h.passed_on k.passed_on f ((h.kept.resolved.kept f).0 there);
      }

pub returns-clause-alike : goal.returns-clause-alike
returns-clause-alike g c = λ keep tells.
    let m = manifest_meaning (λ m. m) c.args.manifest.now in
    parsed_alike MAX_ITEMS m keep (answer_of c.in_ok-called.called) (answer_of c.in_ok-plain.plain)
    (c.in_ok-called.ensures.resolved keep tells)
    (c.in_ok-plain.ensures (admitted MAX_ITEMS m.features) (parsed_entries MAX_ITEMS m)
    m.feature_details (own_of (requirements m)) keep tells c.in_ok-resolve_whole.ensures.resolved)
