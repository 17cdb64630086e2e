use Rattle.cargo_toml_tools.proofs.Cited.{◌++◌, ◌∙◌, ◌≡◌, ap, append-nil, Bor, bytes_eq, drop_all, flat_map, IfOk, list_any, map, set_has, subst, sym, table_keys, table_of, Text}
use Rattle.cargo_toml_tools.proofs.index.features.kept_keys.Goals as goal

pub returns : goal.returns
returns c =
    let sections = c.args.sections.now in
    let gathered = map (λ (k : Bor Text). k.now) c.loop-section.keys.items in
    let all : map (λ (k : Bor Text). k.now) c.as_slice.result.now ≡ flat_map table_keys (map table_of sections) =
    ap (map (λ (k : Bor Text). k.now)) c.as_slice.ensures.value ∙ sym (append-nil gathered)
    ∙ ap (λ ss. gathered ++ flat_map table_keys (map table_of ss)) (sym (drop_all c.loop-section.section-index sections c.loop-section-test.false))
    ∙ c.loop-section.invariant in
    subst (λ ks. IfOk c.set_of.result (λ keys. (x : Text) → set_has keys x ≡ list_any (bytes_eq x) ks)) all c.set_of.ensures
