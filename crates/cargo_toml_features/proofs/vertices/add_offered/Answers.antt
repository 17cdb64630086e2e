use Rattle.cargo_toml_features.proofs.Cited.{ap, bytes_eq, cond, entry_of, false, has_key, sym, ◌||◌, ◌∙◌}
use Rattle.cargo_toml_features.proofs.Merging.{has_more, offered_one}
use Rattle.cargo_toml_features.proofs.vertices.add_offered.Goals as goal

pub returns-in_ok-push : goal.returns-in_ok-push
returns-in_ok-push c = λ q.
    let e = c.args.entry.now in
    has_more c.push.new.self c.args.keys.now e.key c.in_ok-push.ensures.items q
    ∙ ap (λ b. has_key c.args.keys.now q || b) (sym (offered_one (has_key c.args.acted.now.reserved) (entry_of e) q ∙ ap (λ t. cond t (bytes_eq q e.key.now) false) (sym c.offers.ensures ∙ c.if-offers.true)))
