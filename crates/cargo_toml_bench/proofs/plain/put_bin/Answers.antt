use Rattle.cargo_toml_bench.proofs.Cited.{Bor, List, [], ap, ap₂, bytes_eq, bytes_eq_sym, cond-false, cond-true, false, list_any, lists_text, map_push, refl, rules, sym, texts_now, true, ◌||◌, ◌∙◌, ◌∷◌, ◌≡◌}
use Rattle.cargo_toml_graph.specs.Action.{Text}
use Rattle.cargo_toml_bench.proofs.plain.put_bin.Goals as goal

-- What stands in a list of texts.
among_texts : (ks : List (Bor Text)) (x : Text) → list_any (λ k. bytes_eq k.now x) ks ≡ lists_text (texts_now ks) x
among_texts [] x = refl
among_texts (k ∷ ks) x = ap₂ (λ a b. a || b) (bytes_eq_sym k.now x) (among_texts ks x)

pub returns-in_ok-push : goal.returns-in_ok-push
returns-in_ok-push c =
    let value : c.contains.result ≡ list_any (λ k. bytes_eq k.now c.args.bin.now) c.args.own.now.items = search rules in
    let absent : lists_text (texts_now c.args.own.now.items) c.args.bin.now ≡ false = sym (among_texts c.args.own.now.items c.args.bin.now) ∙ sym value ∙ c.if-not-contains.true in
    ap texts_now c.in_ok-push.ensures.items ∙ map_push (λ (k : Bor Text). k.now) c.args.own.now.items c.args.bin ∙ sym (cond-false _ _ _ absent)

pub returns-else-not-contains : goal.returns-else-not-contains
returns-else-not-contains c =
    let value : c.contains.result ≡ list_any (λ k. bytes_eq k.now c.args.bin.now) c.args.own.now.items = search rules in
    let there : lists_text (texts_now c.args.own.now.items) c.args.bin.now ≡ true = sym (among_texts c.args.own.now.items c.args.bin.now) ∙ sym value ∙ c.if-not-contains.false in
    sym (cond-true _ _ _ there)
