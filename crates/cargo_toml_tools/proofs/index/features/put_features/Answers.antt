use Rattle.cargo_toml_tools.proofs.Cited.{◌∙◌, ◌≡◌, ap, feature_rows, kept_lists, lists_meaning, members_view, on_ok_weaker, rules, set_has, subst, sym, with_rows}
use Rattle.cargo_toml_tools.proofs.Placed.{second_version}
use Rattle.cargo_toml_tools.proofs.index.features.put_features.Goals as goal

pub returns-then-not-has_second : goal.returns-then-not-has_second
returns-then-not-has_second c =
    subst (λ has. members_view c.put.new.map.entries ≡ with_rows (feature_rows (kept_lists has (lists_meaning c.args.features.now))) (members_view c.args.line.now.entries))
    (λ i x. c.in_ok-keys.ensures x i) (search rules)

pub returns : goal.returns
returns c = on_ok_weaker c.put-3.result
    (λ last. second_version (kept_lists (set_has c.in_ok-keys.keys) (lists_meaning c.args.features.now))
    (members_view c.args.line.now.entries) (members_view c.put.new.map.entries)
    (members_view c.put-2.new.map.entries) (members_view c.put-3.new.map.entries) _ _ _
    c.in_ok-put.ensures.ok (search rules) (sym c.in_ok-has_second.ensures.extended ∙ c.if-not-has_second.false)
    c.in_ok-put-2.ensures.ok (search rules) last c.from-3.ensures
    ∙ ap (λ has. with_rows (feature_rows (kept_lists has (lists_meaning c.args.features.now))) (members_view c.args.line.now.entries)) (λ i x. c.in_ok-keys.ensures x i)) c.put-3.ensures.ok
