use Rattle.std.proofs.Common.{rules, ◌≡◌, ap, length, sym, take, ◌∙◌}
use Rattle.cargo_toml_resolve.{specs.Passing.bins_of, specs.Texts.texts_now, proofs.BinTurns.bins_read, proofs.BinTurns.put_nothing}
use Rattle.cargo_toml_resolve.proofs.passing.pass_from.Goals as goal

pub returns-then-is_empty-clause-put : goal.returns-then-is_empty-clause-put
returns-then-is_empty-clause-put c =
    let old = c.args.features.now.items in
    let none : length c.in_ok-bins.bins.items ≡ 0 = search rules in
    let are : texts_now c.in_ok-bins.bins.items ≡ take 10 (bins_of old c.args.r) = (rw c.as_slice.ensures.value at c.in_ok-bins.ensures) ∙ ap (take 10) (sym (bins_read old c.args.r c.index.result.now c.requires.r (rw c.place.ensures at c.index.ensures))) in
    put_nothing c.args.row.now c.in_ok-bins.bins.items (take 10 (bins_of old c.args.r)) old none are
