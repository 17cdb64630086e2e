use Rattle.cargo_toml_resolve.proofs.Cited.{Among, Ascend, Bor, Gains, IsPlain, IsTrue, Text, [], action_at, arith, length, length-take-le, nth_text, on_ok_weaker, refl, set_has, subst, sym, take, take-map, texts_now, ℕ, ◌<◌, ◌↔◌, ◌≡◌}
use Rattle.cargo_toml_resolve.proofs.NumberRows.{both_gained, gained_alike, named_gained, fits_now, front_still, front_text, nth_still, texts_longer}
use Rattle.cargo_toml_resolve.proofs.numbering.Look.read.Goals as goal

pub push_actions-requires : goal.push_actions-requires
push_actions-requires c =
    let n = c.args.count in
    let old = c.args.texts.now.items in
    let new = c.name_row.new.texts.items in
    rw c.deref.ensures.value (subst Ascend (take-map (λ (t : Bor Text). t.now) n new)
    (subst Ascend (sym (front_still n (texts_now old) (texts_now new) c.in_ok-name_row.ensures.extends (fits_now n old c.requires.fits))) c.requires.keys))

pub returns-clause-edges : goal.returns-clause-edges
returns-clause-edges c =
    let n = c.args.count in
    let own = c.args.own in
    let v = c.args.feature.now in
    let old = c.args.texts.now.items in
    let new = c.name_row.new.texts.items in
    let more = c.in_ok-name_row.ensures.extends in
    let mid = c.push_keys.new.row.items in
    let edges = c.push_actions.new.row.items in
    let still : (x : ℕ) → x < n → nth_text (texts_now new) x ≡ nth_text (texts_now old) x = λ x lt. nth_still n (texts_now old) (texts_now new) more x (let fits = fits_now n old c.requires.fits in omega (arith, lt, fits)) in
    let named : Gains n own (λ x. IsTrue (set_has v.enables_features (nth_text (texts_now old) x))) [] mid =
    gained_alike n n own (λ x. IsTrue (set_has v.enables_features (nth_text (texts_now new) x))) (λ x. IsTrue (set_has v.enables_features (nth_text (texts_now old) x))) [] mid refl
    (λ x lt. subst (λ k. IsTrue (set_has v.enables_features (nth_text (texts_now new) x)) ↔ IsTrue (set_has v.enables_features k)) (still x lt) (λ i. i, λ i. i))
    (named_gained n own (texts_now new) (λ k. IsTrue (set_has v.enables_features k)) c.name_row.new.row.items [] mid c.in_ok-name_row.ensures.names
    (subst (λ xs. Gains n own (Among xs) [] mid) c.as_slice.ensures.value (subst (λ xs. Gains n own (Among c.as_slice.result.now) xs mid) c.clear.ensures.items c.in_ok-push_keys.ensures))) in
    let acted : Gains (length (take n new)) own (λ x. IsPlain (action_at v.enables_deps (nth_text (texts_now (take n new)) x))) mid edges
    → Gains n own (λ x. IsPlain (action_at v.enables_deps (nth_text (texts_now old) x))) mid edges =
    gained_alike (length (take n new)) n own (λ x. IsPlain (action_at v.enables_deps (nth_text (texts_now (take n new)) x))) (λ x. IsPlain (action_at v.enables_deps (nth_text (texts_now old) x))) mid edges
    (length-take-le n new (texts_longer n old new c.requires.fits more))
    (λ x lt. subst (λ k. IsPlain (action_at v.enables_deps (nth_text (texts_now (take n new)) x)) ↔ IsPlain (action_at v.enables_deps k)) (front_text n old new c.requires.fits more x lt) (λ i. i, λ i. i)) in
    on_ok_weaker c.push_actions.result
    (λ gained. both_gained n own (λ x. IsTrue (set_has v.enables_features (nth_text (texts_now old) x))) (λ x. IsPlain (action_at v.enables_deps (nth_text (texts_now old) x))) [] mid edges named (acted gained))
    (rw c.deref.ensures.value at c.push_actions.ensures)
