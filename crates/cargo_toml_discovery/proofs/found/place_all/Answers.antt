use Rattle.cargo_toml_discovery.proofs.Cited.{List, Named, None, Offered, Option, Some, add-one, ap, cons_option, drop, drop-cons, filter_map, get_or, is_path_in, length, map, named_of, offers, refl, sym, walked, ℕ, ◌++◌, ◌+◌, ◌<◌, ◌∙◌, ◌≡◌}
use Rattle.cargo_toml_discovery.specs.declared.listings.Entry as code
use Rattle.cargo_toml_discovery.proofs.found.place_all.Goals as goal

joined : (o : Option Offered) (os rest : List Offered) → cons_option o os ++ rest ≡ cons_option o (os ++ rest)
joined None os rest = refl
joined (Some o) os rest = refl

-- what the names from here on offer is what this one offers, and then what those behind it do
offers_next : (offer : Named → Option Offered) (es : List code.Entry) (i : ℕ) (d : code.Entry) (rest : List Offered) → i < length es
    → filter_map offer (map named_of (drop i es)) ++ rest
    ≡ cons_option (offer (named_of (get_or es i d))) (filter_map offer (map named_of (drop (i + 1) es)) ++ rest)
offers_next offer es i d rest below =
    rw (drop-cons es i d below, add-one i) (joined (offer (named_of (get_or es i d))) _ rest)

pub loop-entry-preserved : goal.loop-entry-preserved
loop-entry-preserved c = λ os.
    let i = c.loop-entry.entry-index in
    let rest = offers c.args.folder.now (is_path_in c.args.paths.now) (map named_of (drop (i + 1) c.args.entries.now)) ++ os in
    c.in_ok-place.ensures.ok _ rest c.in_ok-offer.ensures
    ∙ ap (λ (xs : List Offered). walked c.loop-entry.placing xs) (sym (offers_next _ c.args.entries.now i _ os c.loop-entry-test.true))
    ∙ c.loop-entry.invariant os
