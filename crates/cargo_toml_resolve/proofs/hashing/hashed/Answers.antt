use Rattle.cargo_toml_resolve.proofs.Cited.{[], ap, arith, drop, nil_from_length, rules, subst, suc, sym, ◌+◌, ◌<◌, ◌∙◌, ◌∷◌, ◌≡◌}
use Rattle.cargo_toml_resolve.proofs.HashedKept.{HasPut, all_put, comes_next, put_next}
use Rattle.cargo_toml_resolve.proofs.hashing.hashed.Goals as goal

pub bounds-names-place : goal.bounds-names-place
bounds-names-place g c =
    let more : c.loop-value.value-iterator.rest.items ≡ c.in-Some.value ∷ c.next.new.self.rest.items = search rules in
    let next = comes_next c.args.values.items c.loop-value.place c.in-Some.value c.next.new.self.rest.items (sym more ∙ c.loop-value.invariant.rest) in
    subst (λ n. c.loop-value.place < n) c.requires.count next.0

pub loop-value-preserved : goal.loop-value-preserved
loop-value-preserved g c =
    let more : c.loop-value.value-iterator.rest.items ≡ c.in-Some.value ∷ c.next.new.self.rest.items = search rules in
    let here : c.in-Some.value ∷ c.next.new.self.rest.items ≡ drop c.loop-value.place c.args.values.items = sym more ∙ c.loop-value.invariant.rest in
    let next = comes_next c.args.values.items c.loop-value.place c.in-Some.value c.next.new.self.rest.items here in
    let one_more : suc c.loop-value.place ≡ c.loop-value.place + 1 = omega arith in
    record {
      rest = next.2 ∙ ap (λ n. drop n c.args.values.items) one_more;
      held = subst (λ n. HasPut c.args.names.now c.args.values.items n c.put_value.new.by_name) one_more
          (put_next c.args.names.now c.args.values.items c.loop-value.place c.loop-value.by_name c.put_value.new.by_name (record { ref_ptr = (0, 0); now = [] }) c.in-Some.value c.next.new.self.rest.items c.requires.ascend
          (subst (λ n. c.loop-value.place < n) c.requires.count next.0) here next.2 c.in_ok-put_value.ensures c.loop-value.invariant.held);
    }

pub returns : goal.returns
returns g c = grind (arith, nil_from_length, all_put)
