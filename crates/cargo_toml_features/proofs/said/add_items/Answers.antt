use Rattle.cargo_toml_features.proofs.Cited.{ap, ap₂, append_assoc, item_of, map, map_push, said_by, string_bytes, sym, take, [], ◌++◌, ◌∙◌, ◌∷◌}
use Rattle.cargo_toml_features.proofs.Making.{said_of, texts_more}
use Rattle.cargo_toml_features.proofs.said.add_items.Goals as goal

pub loop-text-preserved : goal.loop-text-preserved
loop-text-preserved c =
    let ts = c.args.actions.now in
    let i = c.loop-text.text-index in
    let said = c.read_action-said.result in
    let first = map said_by c.args.items.now.items in
    ap (map said_by) c.in_ok-push.ensures.items
    ∙ map_push said_by c.loop-text.items.items (record { said = said; acts = c.acts.result })
    ∙ ap₂ (λ xs x. xs ++ x ∷ []) c.loop-text.invariant (said_of said c.acts.result (item_of c.as_str.result.now) c.acts.ensures c.read_action-said.ensures.item)
    ∙ append_assoc first (map item_of (map string_bytes (take i ts))) (item_of c.as_str.result.now ∷ [])
    ∙ ap (λ xs. first ++ xs) (sym (texts_more ts i c.text-item.result c.as_str.result.now c.loop-text-test.true c.text-item.is c.as_str.ensures.value))
