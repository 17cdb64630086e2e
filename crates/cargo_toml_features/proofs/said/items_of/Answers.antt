use Rattle.cargo_toml_features.proofs.Cited.{ap, item_of, listed_of, map, map-append, string_bytes, sym, take, texts_in, ◌++◌, ◌∙◌}
use Rattle.cargo_toml_features.proofs.Merging.{texts_put}
use Rattle.cargo_toml_features.proofs.said.items_of.Goals as goal

pub loop-listing-preserved : goal.loop-listing-preserved
loop-listing-preserved c =
    let ls = c.args.listings.now in
    let i = c.loop-listing.listing-index in
    let l = c.listing-item.result in
    c.in_ok-add_items.ensures
    ∙ ap (λ xs. xs ++ map item_of (map string_bytes l.actions.now)) c.loop-listing.invariant
    ∙ sym (map-append item_of (texts_in (listed_of (take i ls))) (map string_bytes l.actions.now))
    ∙ ap (map item_of) (sym (texts_put ls i l c.loop-listing-test.true c.listing-item.is))
