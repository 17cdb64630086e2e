use Rattle.cargo_toml_lint.proofs.Cited.{arith, items_from_collect, YieldsList-from_copied, YieldsList-from_rest}
use Rattle.cargo_toml_lint.proofs.Gathered.{among_now}
use Rattle.cargo_toml_lint.proofs.linking.names_in_order.Goals as goal

pub returns-clause-all : goal.returns-clause-all
returns-clause-all g c =
    let all = items_from_collect _ c.collect.ensures.ran (YieldsList-from_copied (YieldsList-from_rest c.in_ok-keys.keys.keys cc)) in
    let same = rw c.in_ok-names.was at all in
    λ f. grind (arith, same, among_now c.in_ok-names.names.items f, c.in_order.ensures.all f, c.in_ok-keys.ensures f)
