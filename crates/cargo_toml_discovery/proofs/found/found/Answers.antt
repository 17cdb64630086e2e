use Rattle.cargo_toml_discovery.proofs.Cited.{List, None, Offered, Option, ProductMeaning, Some, [], ap, append-nil, cons_option, filter, has_path, in_order, is_path_in, is_path_of, last_waiting, map, named_of, offers, option_to_list, product_meaning, refl, sym, waiting_in, walk, walked, with_extra, ◌++◌, ◌∙◌, ◌≡◌}
use Rattle.cargo_toml_discovery.proofs.{Ascend.offers-same, Ascend.walk-found, Placed.walk-same}
use Rattle.cargo_toml_discovery.specs.declared.found.Placing as code
use Rattle.cargo_toml_discovery.proofs.found.found.Goals as goal

option-cons : (x : Option Offered) → cons_option x [] ≡ option_to_list x
option-cons None = refl
option-cons (Some o) = refl

-- what was placed is what the walk gives, and in order that is what is found
pub returns : goal.returns
returns c = λ x is.
    let ps = map product_meaning c.args.stated.now.products.now in
    let folder = c.args.stated.now.folder.now in
    let es = map named_of c.args.entries.now in
    let os = offers folder (is_path_of ps) es in
    let first : code.Placing = record {
      edition = c.args.edition;
      list = c.in_ok-staying.field-0;
      still = c.in_ok-waiting.field-0;
    } in
    let start = waiting_in c.in_ok-waiting.field-0 in
    let last = c.in_ok-place.ensures.ok x [] is in
    let before = c.in_ok-place_all.ensures.ok (option_to_list x) in
    let placed =
    sym (append-nil (map product_meaning c.place.new.placing.list.items)) ∙ last
    ∙ ap (λ (qs : List Offered). walked c.place_all.new.placing qs) (option-cons x)
    ∙ before
    ∙ ap (λ (qs : List Offered). walked first (with_extra qs x)) (offers-same folder (is_path_in c.in_ok-paths.paths) (is_path_of ps) c.in_ok-paths.ensures es)
    ∙ ap (λ (qs : List ProductMeaning). qs ++ walk c.args.edition start (with_extra os x)) c.in_ok-staying.ensures
    ∙ ap (λ (qs : List ProductMeaning). filter has_path ps ++ qs) (walk-same c.args.edition start (last_waiting ps) (with_extra os x) c.in_ok-waiting.ensures) in
    c.in_ok-sort_products.ensures.ok ∙ ap in_order placed ∙ walk-found c.args.edition folder ps es x c.requires
