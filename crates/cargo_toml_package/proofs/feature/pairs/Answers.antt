use Rattle.cargo_toml_package.proofs.Cited.{Entry, OthersSoFar, WrongShape, [], feature_meaning, feature_of, others_push, others_start, refl, rules, subst}
use Rattle.cargo_toml_package.proofs.feature.pairs.Goals as goal

pub loop-name-init : goal.loop-name-init
loop-name-init c =
    rw c.in_ok-pairs.ensures.items (others_start _ _ feature_meaning feature_of WrongShape _ _ (search rules))

pub loop-name-preserved : goal.loop-name-preserved
loop-name-preserved c =
    let es = c.into_iter-name-iterator.result in
    let e : Entry = (c.in-Some.name, c.in-Some.member) in
    let so_far = subst (λ rest. OthersSoFar _ _ feature_meaning feature_of WrongShape [] es rest c.loop-name.pairs.items) c.in-Some.ensures.steps c.loop-name.invariant in
    others_push _ _ feature_meaning feature_of WrongShape [] es c.next.new.self c.loop-name.pairs.items _ c.in-Some.name e c.in_ok-of_value.field-0 so_far refl
    refl c.in_ok-of_value.ensures c.in_ok-push.ensures.items

pub returns-clause-ascend : goal.returns-clause-ascend
returns-clause-ascend c = c.loop-name.invariant.ascend
