use Rattle.cargo_toml_resolve.proofs.Cited.{Among, Bor, ComesToHold, GainEnabler, HasLabel, HasTextsOf, IsPassed, IsWanted, KeepsLabel, Leads, List, PassesAny, Reaches, Text, [], ap, arith, but_enablers, common_steps, edge, false, false≢true, length, nth_text, on_ok_weaker, refl, row_items, subst, sym, texts_now, true, ℕ, ◌<◌, ◌↔◌, ◌∙◌, ◌≡◌}
use Rattle.cargo_toml_resolve.proofs.TakenOver.{directly, passes_none, source_is, stays_as_it_is, takes_over}
use Rattle.cargo_toml_resolve.proofs.{InPlace.alike_len, Steps.path_inside, Steps.reached, Steps.gathered}
use Rattle.cargo_toml_resolve.proofs.keeping.keep.Goals as goal

pub has_flagged-requires : goal.has_flagged-requires
has_flagged-requires c = grind (arith, common_steps, c.row-row.ensures)

pub enable_along-requires : goal.enable_along-requires
enable_along-requires c = λ y i. subst (λ n. y < n) c.requires.count (c.args.graph.now.edges_inside c.args.own y (subst (λ l. Among l y) c.row-row.ensures i))

pub returns-then-not-has_flagged-clause-kept : goal.returns-then-not-has_flagged-clause-kept
returns-then-not-has_flagged-clause-kept c =
    let g = c.args.graph.now in
    let fs = g.flags.items in
    let own = c.args.own in
    let ts = texts_now g.texts.items in
    let vs = c.args.features.now.items in
    let ws = c.enable_along.new.features.items in
    let clean : ¬ ((x : ℕ) × Leads g.edges own x × IsWanted fs true x) = λ w.
    false≢true (sym c.if-not-has_flagged.true ∙ c.has_flagged.ensures.1 (w.0, subst (λ l. Among l w.0) (sym c.row-row.ensures) w.1, subst (λ f. IsWanted f true w.0) (sym c.as_slice-flags.ensures.value) w.2)) in
    let is : (b : ℕ) → Among [] b ↔ IsPassed g.edges fs own b = passes_none g.edges fs own clean in
    let here : own < length g.texts.items = let lt = c.requires.own in let n = g.features_count in omega (arith, lt, n) in
    let source : c.index-source.result.now.now ≡ nth_text ts own = source_is g.texts.items own c.place.result c.index-source.result.now here c.place.ensures c.index-source.ensures in
    let gain : GainEnabler (Among c.row-row.result.now) c.index-source.result.now.now vs ws → GainEnabler (Among (row_items g.edges own)) (nth_text ts own) vs ws =
    λ gained. subst (λ e. GainEnabler (Among (row_items g.edges own)) e vs ws) source (subst (λ l. GainEnabler (Among l) c.index-source.result.now.now vs ws) c.row-row.ensures gained) in
    on_ok_weaker c.enable_along.result
    (λ gained. stays_as_it_is g.edges g.names fs ts own c.requires.kept [] is (Among (row_items g.edges own)) (directly g.edges g.names fs ts own c.requires.kept [] is refl) vs ws (gain gained) refl)
    c.enable_along.ensures

pub label-requires-clause-passed : goal.label-requires-clause-passed
label-requires-clause-passed c = λ b i. path_inside (length c.args.graph.now.edges) c.args.graph.now.edges_inside ((c.in_ok-pass.ensures.passed b).0 i).1

pub enable_along-requires-2 : goal.enable_along-requires-2
enable_along-requires-2 c = λ y i.
    let g = c.args.graph.now in
    let t = (reached g.edges c.as_slice-flags.result.now (Among c.pass.new.self.passed.items) c.args.own c.in_ok-pass.ensures.passed y).0 ((c.in_ok-label.ensures.labels y).0 (subst (λ l. Among l y) c.as_slice.ensures.value i)) in
    subst (λ n. y < n) c.requires.count (path_inside (length g.edges) g.edges_inside t.1)

pub label-requires-2-clause-passed : goal.label-requires-2-clause-passed
label-requires-2-clause-passed c = λ b i.
    let g = c.args.graph.now in
    let same : c.label.new.self.passed.items ≡ c.pass.new.self.passed.items = ap (λ v. v.items) c.in_ok-label.ensures.passed in
    subst (λ n. b < n) (sym g.names_count) (path_inside (length g.edges) g.edges_inside ((c.in_ok-pass.ensures.passed b).0 (subst (λ l. Among l b) same i)).1)

pub set_of_nodes-requires : goal.set_of_nodes-requires
set_of_nodes-requires c = λ x i.
    let l = (c.in_ok-label-2.ensures.labels x).0 (subst (λ l. Among l x) c.as_slice-2.ensures.value i) in
    subst (λ ts. x < length ts) (sym c.as_slice-3.ensures.value) (c.args.graph.now.names_inside l.0.0 x l.0.2)

pub hold-requires-clause-at : goal.hold-requires-clause-at
hold-requires-clause-at c = subst (λ n. c.args.own < n) (c.requires.count ∙ sym (alike_len but_enablers c.args.features.now.items c.enable_along-2.new.features.items c.in_ok-enable_along.ensures.same)) c.requires.own

pub hold-requires-clause-passed : goal.hold-requires-clause-passed
hold-requires-clause-passed c = λ b i.
    let g = c.args.graph.now in
    let same : c.as_slice-4.result.now ≡ c.pass.new.self.passed.items = c.as_slice-4.ensures.value ∙ ap (λ v. v.items) (c.in_ok-label-2.ensures.passed ∙ c.in_ok-label.ensures.passed) in
    subst (λ n. b < n) (c.requires.count ∙ sym (alike_len but_enablers c.args.features.now.items c.enable_along-2.new.features.items c.in_ok-enable_along.ensures.same)) (path_inside (length g.edges) g.edges_inside ((c.in_ok-pass.ensures.passed b).0 (subst (λ l. Among l b) same i)).1)

pub hold-requires-clause-apart : goal.hold-requires-clause-apart
hold-requires-clause-apart c = λ i.
    let same : c.as_slice-4.result.now ≡ c.pass.new.self.passed.items = c.as_slice-4.ensures.value ∙ ap (λ v. v.items) (c.in_ok-label-2.ensures.passed ∙ c.in_ok-label.ensures.passed) in
    let p = (c.in_ok-pass.ensures.passed c.args.own).0 (subst (λ l. Among l c.args.own) same i) in
    false≢true (sym c.requires.kept ∙ subst (λ f. IsWanted f true c.args.own) c.as_slice-flags.ensures.value p.0)

pub returns-clause-kept : goal.returns-clause-kept
returns-clause-kept c =
    let g = c.args.graph.now in
    let fs = g.flags.items in
    let own = c.args.own in
    let ts = texts_now g.texts.items in
    let vs = c.args.features.now.items in
    let ws = c.enable_along-2.new.features.items in
    let us = c.hold.new.features.items in
    let passed = c.pass.new.self.passed.items in
    let set = c.in_ok-names.names in
    let is : (b : ℕ) → Among passed b ↔ IsPassed g.edges fs own b = rw c.as_slice-flags.ensures.value at c.in_ok-pass.ensures.passed in
    let flagged = c.has_flagged.ensures.0 c.if-not-has_flagged.false in
    let gone : IsWanted fs true flagged.0 = subst (λ f. IsWanted f true flagged.0) c.as_slice-flags.ensures.value flagged.2 in
    let any : PassesAny g.edges fs own = (flagged.0, (gone, edge (subst (λ l. Among l flagged.0) c.row-row.ensures flagged.1))) in
    let kept_passed : c.label.new.self.passed.items ≡ passed = ap (λ v. v.items) c.in_ok-label.ensures.passed in
    let same : c.as_slice-4.result.now ≡ passed = c.as_slice-4.ensures.value ∙ ap (λ v. v.items) (c.in_ok-label-2.ensures.passed ∙ c.in_ok-label.ensures.passed) in
    let targets = c.as_slice.result.now in
    let led : (x : ℕ) → Among targets x ↔ HasLabel (Among passed) g.edges fs own x = rw (sym c.as_slice.ensures.value) at (rw c.as_slice-flags.ensures.value at c.in_ok-label.ensures.labels) in
    let t : (x : ℕ) → Among targets x ↔ (IsWanted fs false x × Reaches (Leads g.edges) (IsWanted fs true) own x) =
    λ x. let r = reached g.edges fs (Among passed) own is x in (λ i. r.0 ((led x).0 i), λ p. (led x).1 (r.1 p)) in
    let named = c.as_slice-2.result.now in
    let labelled : (x : ℕ) → Among named x ↔ HasLabel (Among passed) g.names fs own x = rw kept_passed at (rw (sym c.as_slice-2.ensures.value) at (rw c.as_slice-flags.ensures.value at c.in_ok-label-2.ensures.labels)) in
    let n : (x : ℕ) → Among named x ↔ KeepsLabel g.edges fs g.names own x =
    λ x. let r = gathered g.edges fs g.names (Among passed) own is x in (λ i. r.0 ((labelled x).0 i), λ p. (labelled x).1 (r.1 p)) in
    let here : own < length g.texts.items = let lt = c.requires.own in let k = g.features_count in omega (arith, lt, k) in
    let source : c.index-source.result.now.now ≡ nth_text ts own = source_is g.texts.items own c.place.result c.index-source.result.now here c.place.ensures c.index-source.ensures in
    let gain : GainEnabler (Among targets) (nth_text ts own) vs ws = subst (λ e. GainEnabler (Among targets) e vs ws) source c.in_ok-enable_along.ensures in
    let has : HasTextsOf ts named set = subst (λ (us : List (Bor Text)). HasTextsOf (texts_now us) named set) c.as_slice-3.ensures.value c.in_ok-names.ensures in
    on_ok_weaker c.hold.result
    (λ held. takes_over g.edges g.names fs ts own c.requires.kept passed is (Among targets) t vs ws gain any named n set has us
    (subst (λ p. ComesToHold own p set ws us) same held))
    c.hold.ensures
