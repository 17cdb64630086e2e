use Rattle.cargo_toml_bench.proofs.Cited.{Among, AreTakenOut, IsOnce, MatchOption-at_none, and_from, and_parts, apart_false, inl, inr, nil_from_length, pass_bins, refl, subst, sym, texts_now, without_one, ◌∙◌}
use Rattle.cargo_toml_bench.proofs.Taken.{bins_then, first_out, none_out, start_then}
use Rattle.cargo_toml_bench.proofs.plain.+remove_all.Goals as goal

pub returns-in_default : goal.returns-in_default
returns-in_default g t c = λ m own start bins there once names.
    subst (λ ks. AreTakenOut m own (texts_now ks) c.args.features.now c.args.features.now c.args.hidden.now c.args.hidden.now)
    (sym (nil_from_length c.args.removed.now (MatchOption-at_none _ _ c.in_default.is c.split_first.ensures.cases)))
    (none_out m own c.args.features.now start bins c.args.hidden.now)

pub returns : goal.returns
returns g t c = λ m own start bins there removed_once names.
    let split = c.in-Some.ensures.cases.0 in
    let old = c.args.features.now in
    let key = c.in-Some.key.now.now in
    let others = texts_now c.in-Some.others.now in
    let mid = c.remove_one.new.features in
    let once = subst (λ ks. IsOnce (texts_now ks)) split removed_once in
    let first = there key (subst (λ ks. Among (texts_now ks) key) (sym split) (inl refl)) in
    let one = c.in_ok-remove_one.ensures first names in
    let left = one.0 in
    let here = start.has key ∙ first in
    subst (λ ks. AreTakenOut m own (texts_now ks) old c.remove_all.new.features c.args.hidden.now c.remove_all.new.hidden) (sym split)
    (first_out m own old start bins key here mid left others once.0
    c.remove_all.new.features c.args.hidden.now c.remove_one.new.hidden c.remove_all.new.hidden one.1
    (c.in_ok-remove_all.ensures (without_one key m) (pass_bins m key own) (start_then m own old start bins key here mid left) (bins_then m own old start bins key here mid left)
    (λ v i. sym (left.left.has v) ∙ and_from _ _ (there v (subst (λ ks. Among (texts_now ks) v) (sym split) (inr i))) (apart_false v key (λ e. once.0 (subst (Among others) e i))))
    once.1 (record { all = λ f stays. names.all f (and_parts _ _ (left.left.has f ∙ stays)).0; once = names.once })))
