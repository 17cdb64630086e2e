use Rattle.cargo_toml_resolve.proofs.Cited.{IsFlagOf, [], false, false≢true, length, names_of, nth_text, slice_index_or, subst, ℕ, ◌<◌}
use Rattle.cargo_toml_resolve.proofs.{ByFilter.are_kept_by, Learning.if_ok_weaker}
use Rattle.cargo_toml_resolve.proofs.resolution.kept_by.Goals as goal

pub returns-then-not-hides_any : goal.returns-then-not-hides_any
returns-then-not-hides_any g c =
    let vs = c.args.features.items in
    let none = subst (λ xs. (i : ℕ) → i < length xs → IsFlagOf g.F.Fn c.args.filter (nth_text (names_of xs) i) false) c.as_slice.ensures.value (c.hides_any.ensures.none c.if-not-hides_any.true) in
    if_ok_weaker c.all_kept.result _ _ (λ l h t made.
    are_kept_by g.F.Fn c.args.filter c.requires.filter t vs made c.requires.in_order [] none l.features l.hidden (λ removed is. h t removed made (λ f y. false≢true ((is f).0 y).3))) c.all_kept.ensures

pub returns : goal.returns
returns g c =
    let vs = c.args.features.items in
    let flags = c.in_ok-flags.flags.items in
    let are = subst (λ xs. (i : ℕ) → i < length xs → IsFlagOf g.F.Fn c.args.filter (nth_text (names_of xs) i) (slice_index_or flags i false)) c.as_slice-2.ensures.value c.in_ok-flags.ensures.flags in
    if_ok_weaker c.kept_of.result _ _ (λ l h t made.
    are_kept_by g.F.Fn c.args.filter c.requires.filter t vs made c.requires.in_order flags are l.features l.hidden (λ removed is. h t removed made is)) c.kept_of.ensures
