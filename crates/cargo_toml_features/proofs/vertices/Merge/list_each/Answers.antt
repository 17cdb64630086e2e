use Rattle.cargo_toml_features.proofs.Cited.{Ascend, IsMerged, [], ap, append-nil, arith, drop, length, listed_of, listing_names, subst, sym, take, take_all, texts_in, told_of, vertex_names, ◌++◌, ◌+◌, ◌∙◌}
use Rattle.cargo_toml_features.proofs.Merging.{listing_stands, names_left, next_listing, none_after, texts_count, texts_taken, told_more}
use Rattle.cargo_toml_features.proofs.vertices.Merge.list_each.Goals as goal

pub list-requires-clause-below : goal.list-requires-clause-below
list-requires-clause-below c =
    let ls = c.args.listings.now in
    next_listing ls c.loop-listing.listing-index c.listing-item.result c.loop-listing-test.true c.listing-item.is (vertex_names c.loop-listing.self.all.items)
    (c.loop-listing.invariant.below [] (subst (λ xs. Ascend (vertex_names c.args.self.now.all.items ++ xs)) (sym (append-nil (listing_names ls))) c.requires.below))

pub list-requires-clause-fits : goal.list-requires-clause-fits
list-requires-clause-fits c =
    let count = texts_count c.args.listings.now c.loop-listing.listing-index c.listing-item.result c.loop-listing-test.true c.listing-item.is in
    let start = c.loop-listing.invariant.start in
    let fits = c.requires.fits in
    omega (arith, count, start, fits)

pub loop-listing-preserved : goal.loop-listing-preserved
loop-listing-preserved c =
    let ls = c.args.listings.now in
    let i = c.loop-listing.listing-index in
    let l = c.listing-item.result in
    let inside = c.loop-listing-test.true in
    let is = c.listing-item.is in
    record {
      in_order = c.in_ok-list.ensures.in_order;
      below = λ us h. c.in_ok-list.ensures.below (listing_names (drop (i + 1) ls) ++ us)
          (subst (λ xs. Ascend (vertex_names c.loop-listing.self.all.items ++ (xs ++ us))) (names_left ls i l inside is) (c.loop-listing.invariant.below us h));
      merged = λ all told stand h. subst (λ t. IsMerged all t c.list.new.self) (told_more ls i l inside is told)
          (c.in_ok-list.ensures.merged all (told ++ told_of (take i ls)) (listing_stands ls i l inside is all c.args.self.now.start c.loop-listing.self.start c.loop-listing.invariant.start stand) (c.loop-listing.invariant.merged all told stand h));
      keys = c.in_ok-list.ensures.keys ∙ c.loop-listing.invariant.keys;
      start =
          let count = texts_taken ls i l inside is in
          let before = c.loop-listing.invariant.start in
          let after = c.in_ok-list.ensures.start in
          omega (arith, count, before, after);
    }

pub returns-clause-below : goal.returns-clause-below
returns-clause-below c = λ us h. none_after (vertex_names c.loop-listing.self.all.items) c.args.listings.now c.loop-listing.listing-index us c.loop-listing-test.false (c.loop-listing.invariant.below us h)

pub returns-clause-merged : goal.returns-clause-merged
returns-clause-merged c = λ all told stand h. subst (λ xs. IsMerged all (told ++ told_of xs) c.loop-listing.self) (take_all c.loop-listing.listing-index c.args.listings.now c.loop-listing-test.false) (c.loop-listing.invariant.merged all told stand h)

pub returns-clause-start : goal.returns-clause-start
returns-clause-start c = c.loop-listing.invariant.start ∙ ap (λ xs. c.args.self.now.start + length (texts_in (listed_of xs))) (take_all c.loop-listing.listing-index c.args.listings.now c.loop-listing-test.false)
