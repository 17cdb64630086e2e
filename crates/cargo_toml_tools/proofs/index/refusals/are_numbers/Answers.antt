use Rattle.cargo_toml_tools.proofs.Cited.{all_from_yields_List, arith, is_number, lit<, nth_from_yields_List, rules, tests, YieldsList-from_str_split}
use Rattle.cargo_toml_tools.proofs.index.refusals.are_numbers.Goals as goal

pub returns : goal.returns
returns c =
    let text = c.args.text.now in
    let fourth = nth_from_yields_List c.nth.result _ 3 c.nth.ensures.ran (YieldsList-from_str_split 46 text (lit< tt) c.split.ensures.text c.split.ensures.has_more c.split.ensures.pattern) in
    let all = all_from_yields_List is_number _ _ c.all.result c.all.ensures.ran (YieldsList-from_str_split 46 text (lit< tt) c.split-2.ensures.text c.split-2.ensures.has_more c.split-2.ensures.pattern) (λ x b q k. search (rules, tests)) in
    grind (arith, fourth, all)
