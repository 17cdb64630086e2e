use Rattle.cargo_toml_lint.proofs.Cited.{arith, common_steps, Finds, manifest_meaning, refl, written_in}
use Rattle.cargo_toml_lint.proofs.{Counted.found_first, Exact.holds_is, Sorting.new_sorted, Sorting.same_found}
use Rattle.cargo_toml_lint.specs.contracts.finding.FindingOrd.TheImpl.Laws as laws
use Rattle.cargo_toml_lint.proofs.linting.lint_limited.Goals as goal

pub returns-clause-exact : goal.returns-clause-exact
returns-clause-exact g c =
    let m = manifest_meaning (λ m. m) c.args.manifest.now in
    let known = c.in_ok-known.known in
    let written : Finds (written_in c.in_ok-resolved.resolved.features known c.args.limit m) c.new-found.result.items c.add_products.new.found.items =
    grind (arith, common_steps) in
    λ d f t.
    let same = same_found laws.matches_eq-law c.add_counting.new.found.items c.sort_unstable.new.self.items c.dedup.new.self.items
    c.sort_unstable.ensures.permutation c.dedup.ensures.filtered d f t in
    let found = found_first _ _ _ _ _ d f t c.new-found.ensures.items written same (c.in_ok-add_counting.ensures _ c.in_ok-links.ensures (λ f k. refl) d f t) in
    let holds = holds_is c.args.limit m c.in_ok-resolved.resolved known c.in_ok-known.ensures.names c.in_ok-known.ensures.listed c.in_ok-resolved.ensures.resolved d f t in
    (λ i. holds.0 (found.0 i), λ h. found.1 (holds.1 h))

pub returns-clause-in_order : goal.returns-clause-in_order
returns-clause-in_order g c = new_sorted laws.matches_eq-law c.add_counting.new.found.items c.sort_unstable.new.self.items c.dedup.new.self.items
    c.sort_unstable.ensures.permutation c.dedup.ensures.filtered c.sort_unstable.ensures.sorted
