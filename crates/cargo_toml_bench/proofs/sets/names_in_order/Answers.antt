use Rattle.cargo_toml_bench.proofs.Cited.{IfOk, IfOk-weaker, YieldsList-from_copied, YieldsList-from_rest, all_taken, among-true, is_among-true, items_from_collect, same_from_decides, sym, taken_in_order, ◌∙◌, ◌≡◌}
use Rattle.cargo_toml_bench.proofs.sets.names_in_order.Goals as goal

pub returns-clause-all : goal.returns-clause-all
returns-clause-all g c =
    let keys = c.in_ok-keys.keys in
    let same : IfOk c.collect.result (λ v. v.items ≡ keys.keys) = items_from_collect _ c.collect.ensures.ran (YieldsList-from_copied (YieldsList-from_rest keys.keys cc)) in
    IfOk-weaker c.collect.result _ _
    (λ v all f. same_from_decides _ _ (is_among-true _ f, among-true _ f) (λ y. (all f).1 (c.in_ok-keys.ensures f ∙ y), λ i. sym (c.in_ok-keys.ensures f) ∙ (all f).0 i))
    (all_taken c.collect.result keys same)

pub returns-clause-ascending : goal.returns-clause-ascending
returns-clause-ascending g c =
    let keys = c.in_ok-keys.keys.keys in
    taken_in_order c.collect.result keys c.iter.ensures.ordered
    (items_from_collect _ c.collect.ensures.ran (YieldsList-from_copied (YieldsList-from_rest keys cc)))
