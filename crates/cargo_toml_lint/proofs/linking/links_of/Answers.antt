use Rattle.cargo_toml_lint.proofs.Cited.{◌∙◌, ap, length}
use Rattle.cargo_toml_lint.proofs.linking.links_of.Goals as goal

pub returns : goal.returns
returns g c =
    let same = c.as_slice.ensures.value in
    let exact = rw same at c.in_ok-next.ensures.exact in
    record {
      found = record {
        finished = c.in_ok-reach.ensures.finished;
        count = ap (λ v. length v.items) c.in_ok-reach.ensures.next ∙ c.in_ok-next.ensures.len ∙ ap length same;
        in_order = c.in_ok-names.ensures.in_order;
      };
      known = c.in_ok-names.ensures.all;
      leads = λ a b la lb. rw c.in_ok-reach.ensures.next ((λ i. ((exact a b la).0 i).1), (λ h. (exact a b la).1 (lb, h)));
    }
