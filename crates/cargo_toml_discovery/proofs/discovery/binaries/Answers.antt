use Rattle.cargo_toml_discovery.proofs.Cited.{Bool, Edition, List, Name, Named, ProductMeaning, answers_of, ap, around_in, codes, false, has_text, listed_products, main_offer, refl, rules, true, ◌∙◌, ◌≡◌}
use Rattle.cargo_toml_discovery.proofs.discovery.binaries.Goals as goal

-- whether `src/main.rs` is there counts only where binaries are wanted
same : (is_wanted asked is_there : Bool) (edition : Edition) (folder name : Name) (ps : List ProductMeaning) (es : List Named) →
    (is_wanted ≡ true → asked ≡ is_there) →
    listed_products edition is_wanted folder ps es (main_offer name asked ps) ≡ listed_products edition is_wanted folder ps es (main_offer name is_there ps)
same false asked is_there edition folder name ps es h = refl
same true asked is_there edition folder name ps es h = ap (λ b. listed_products edition true folder ps es (main_offer name b ps)) (h refl)

pub returns : goal.returns
returns c =
    let seen = around_in (answers_of c.args.listings.now) c.args.stated.now.wanted in
    c.in_ok-list_of.ensures _ c.in_ok-main.ensures
    ∙ same c.args.stated.now.wanted.bins c.if-stated.has_main (has_text seen.src (codes "main.rs")) _ _ _ _ _ (λ e. search rules)
