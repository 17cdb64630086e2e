use Rattle.cargo_toml_audit.proofs.Cited.{ap, append_assoc, asking_of, contains_text, drop, further_from, further_of, left_next, map, oddity_of, sym, ◌++◌, ◌+◌, ◌∙◌}
use Rattle.cargo_toml_audit.proofs.audit.dependencies.further.Goals as goal

pub loop-one-preserved : goal.loop-one-preserved
loop-one-preserved c =
    let names = contains_text c.loop-one.names in
    let keys = contains_text c.loop-one.keys in
    let rest = map asking_of (drop (c.loop-one.one-index + 1) c.args.uses.now) in
    let said = map oddity_of c.loop-one.all.items in
    let one = further_of names keys (asking_of c.one-item.result) in
    let later = further_from (contains_text c.add_further.new.names) (contains_text c.add_further.new.keys) rest in
    ap (λ t. t ++ later) c.in_ok-add_further.ensures.found ∙ append_assoc said one later
    ∙ (λ i. said ++ (one ++ further_from (λ t. c.in_ok-add_further.ensures.names t i) (λ t. c.in_ok-add_further.ensures.keys t i) rest))
    ∙ ap (λ ts. said ++ further_from names keys ts) (sym (left_next asking_of c.args.uses.now c.loop-one.one-index c.one-item.result c.loop-one-test.true c.one-item.is))
    ∙ c.loop-one.invariant
