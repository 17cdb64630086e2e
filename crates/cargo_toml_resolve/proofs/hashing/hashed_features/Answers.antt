use Rattle.cargo_toml_resolve.proofs.Cited.{AreInOrder, arith, names_of, nil_from_length, others_ascend, rules, subst, ◌∷◌, ◌≡◌}
use Rattle.cargo_toml_resolve.proofs.HashedKept.{feature_turn}
use Rattle.cargo_toml_resolve.proofs.hashing.hashed_features.Goals as goal

pub loop-feature-preserved : goal.loop-feature-preserved
loop-feature-preserved g c =
    let v = c.in-Some.feature in
    let vs = c.next.new.self.rest.items in
    let more : c.loop-feature.feature-iterator.rest.items ≡ v ∷ vs = search rules in
    let up = subst AreInOrder more c.loop-feature.invariant.in_order in
    record {
      in_order = others_ascend v.key.now (names_of vs) up;
      held = λ f. grind (arith, c.in_ok-put.ensures f, c.loop-feature.invariant.held f, feature_turn v vs f, more);
    }

pub returns : goal.returns
returns g c = grind (arith, nil_from_length)
