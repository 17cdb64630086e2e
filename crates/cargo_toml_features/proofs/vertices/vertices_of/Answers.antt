use Rattle.cargo_toml_features.proofs.Cited.{[], ap, arith, entry_of, has_key, is_offered, listed_of, map, refl, texts_in, ◌∙◌}
use Rattle.cargo_toml_features.proofs.AllMerged.{all_merged, counts, first_names, first_stands, none_before, none_merged, none_stands, rest_stands}
use Rattle.cargo_toml_features.proofs.vertices.vertices_of.Goals as goal

pub list_each-requires-clause-below : goal.list_each-requires-clause-below
list_each-requires-clause-below c =
    let parts = c.split_default.ensures.whole in
    none_before c.in_ok-with_capacity.field-0.items _ c.in_ok-with_capacity.ensures.items (first_names c.args.listings.now c.split_default.result.0.now c.split_default.result.1.now parts c.requires.ascend)

pub list_each-requires-clause-fits : goal.list_each-requires-clause-fits
list_each-requires-clause-fits c =
    let count = counts c.args.listings.now c.split_default.result.0.now c.split_default.result.1.now c.split_default.ensures.whole in
    let fits = c.requires.fits in
    omega (arith, count, fits)

pub list_default-requires-clause-below : goal.list_default-requires-clause-below
list_default-requires-clause-below c = c.in_ok-list_each.ensures.below _ (none_before c.in_ok-with_capacity.field-0.items _ c.in_ok-with_capacity.ensures.items c.split_default.ensures.below)

pub list_default-requires-clause-fits : goal.list_default-requires-clause-fits
list_default-requires-clause-fits c =
    let count = counts c.args.listings.now c.split_default.result.0.now c.split_default.result.1.now c.split_default.ensures.whole in
    let fits = c.requires.fits in
    let start = c.in_ok-list_each.ensures.start in
    omega (arith, count, fits, start)

pub list_each-requires-2-clause-below : goal.list_each-requires-2-clause-below
list_each-requires-2-clause-below c = c.in_ok-list_default.ensures.below _ (c.in_ok-list_each.ensures.below _ (none_before c.in_ok-with_capacity.field-0.items _ c.in_ok-with_capacity.ensures.items c.split_default.ensures.between))

pub list_each-requires-2-clause-fits : goal.list_each-requires-2-clause-fits
list_each-requires-2-clause-fits c =
    let count = counts c.args.listings.now c.split_default.result.0.now c.split_default.result.1.now c.split_default.ensures.whole in
    let fits = c.requires.fits in
    let first = c.in_ok-list_each.ensures.start in
    let start = c.in_ok-list_default.ensures.start in
    omega (arith, count, fits, first, start)

pub returns : goal.returns
returns c =
    let ls = c.args.listings.now in
    let early = c.split_default.result.0.now in
    let late = c.split_default.result.1.now in
    let parts = c.split_default.ensures.whole in
    let all = texts_in (listed_of ls) in
    let count = counts ls early late parts in
    let first = c.in_ok-list_each.ensures.start in
    let start = c.in_ok-list_default.ensures.start in
    let last = c.in_ok-list_each-2.ensures.start in
    all_merged ls early late parts c.imply.new.self c.in_ok-keys.keys.items (is_offered (has_key c.args.acted.now.reserved) (map entry_of c.args.entries.now))
    c.split_default.ensures.between c.in_ok-imply.ensures.in_order
    (ap (λ k. k.now) (c.in_ok-imply.ensures.rest.keys ∙ c.in_ok-list_each-2.ensures.keys ∙ c.in_ok-list_default.ensures.keys ∙ c.in_ok-list_each.ensures.keys) ∙ c.as_slice.ensures.value)
    c.in_ok-imply.ensures.bound c.in_ok-keys.ensures.keys
    (c.in_ok-imply.ensures.merged all _ (none_stands ls early late parts c.list_each-2.new.self.start (omega (arith, count, first, start, last)))
    (c.in_ok-list_each-2.ensures.merged all _ (rest_stands ls early late parts c.list_default.new.self.start (start ∙ first))
    (c.in_ok-list_default.ensures.merged all _ (none_stands ls early late parts c.list_each.new.self.start (omega (arith, count, first)))
    (c.in_ok-list_each.ensures.merged all [] (first_stands ls early late parts) (none_merged all _ c.in_ok-with_capacity.ensures.items refl)))))
