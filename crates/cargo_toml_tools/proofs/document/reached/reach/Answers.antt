use Rattle.cargo_toml_tools.proofs.Cited.{◌&&◌, ◌∙◌, ◌≡◌, and_from, and_parts, filter_same, has_filtered, is_beside, join_alike, rules, set_has, sym, Text}
use Rattle.cargo_toml_tools.proofs.document.reached.reach.Goals as goal

pub returns : goal.returns
returns g c = λ t are.
    let on = c.in_ok-names.ensures t are in
    let names = c.in_ok-names.names in
    let beside = is_beside c.args.features.now c.args.name.now in
    let left : (x : Text) → set_has c.retain.new.self x ≡ (set_has names x && beside x) =
    has_filtered beside names c.retain.new.self (filter_same _ (λ k. beside k.now) _ (λ k b f' told. search rules) _ _ c.retain.ensures.filtered) in
    record {
      features = λ x. (
        λ h. (let p = and_parts (set_has names x) (beside x) (sym (left x) ∙ h) in ((on x).0 p.0, p.1)),
        λ h. left x ∙ and_from (set_has names x) (beside x) ((on x).1 h.0) h.1,
      );
      actions = λ k. join_alike (λ a. (
        λ s. (s.0, (on s.0).0 s.1, s.2),
        λ s. (s.0, (on s.0).1 s.1, s.2),
      )) _ (c.in_ok-actions.ensures k);
    }
