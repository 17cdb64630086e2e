use Rattle.cargo_toml_features.proofs.Cited.{StandAt, [], ap, get_or, is_below, length, option_map_or, subst, sym, true, ◌<◌, ◌∙◌}
use Rattle.cargo_toml_features.proofs.Merging.{next_below, no_text}
use Rattle.cargo_toml_features.proofs.vertices.Merge.imply.Goals as goal

pub loop-self-preserved : goal.loop-self-preserved
loop-self-preserved c =
    let m = c.loop-self.self in
    let same = c.loop-self.invariant.rest.keys in
    record {
      in_order = c.in_ok-imply_next.ensures.in_order;
      below = next_below c.args.bound m.all.items c.imply_next.new.self.all.items m.keys.now m.next
          (subst (λ n. m.next < n) (sym (ap (λ k. length k.now) same)) c.loop-self-test.true)
          c.loop-self.invariant.in_order c.in_ok-imply_next.ensures.names
          (ap (λ k. option_map_or (λ b. is_below (get_or k.now m.next no_text).now b.now) c.args.bound true) same ∙ sym c.is_within.ensures ∙ c.if-is_within.true);
      merged = λ all told stand h. c.in_ok-imply_next.ensures.merged all told (subst (λ s. StandAt all s []) (sym c.loop-self.invariant.rest.start) stand) (c.loop-self.invariant.merged all told stand h);
      rest = record {
        keys = c.in_ok-imply_next.ensures.rest.keys ∙ same;
        start = c.in_ok-imply_next.ensures.rest.start ∙ c.loop-self.invariant.rest.start;
      };
    }
