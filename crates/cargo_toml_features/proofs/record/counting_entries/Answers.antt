use Rattle.cargo_toml_features.proofs.Cited.{ap, entry_of, is_mentioned_in, is_optional, map, rules, subst, sym, take_all, ◌||◌, ◌∙◌}
use Rattle.cargo_toml_features.proofs.GatheredKeys.{Gathers, flag_put, key_put, key_left}
use Rattle.cargo_toml_features.proofs.{record.counting_entries.Goals.then-is_counted+in_ok-push-2, record.counting_entries.Goals.else-is_counted}
use Rattle.cargo_toml_features.proofs.record.counting_entries.Goals as goal

pub loop-entry-preserved : goal.loop-entry-preserved
loop-entry-preserved c =
    let mentioned = is_mentioned_in c.args.mentions.now in
    let es = c.args.entries.now in
    let i = c.loop-entry.entry-index in
    record {
      flags = flag_put mentioned es i c.entry-item.result c.loop-entry-test.true c.entry-item.is c.loop-entry.flags.items c.counts-is_counted.result c.counts-is_counted.ensures c.loop-entry.invariant.flags c.push.new.self.items c.in_ok-push.ensures.items;
      keys = elim c.if-is_counted.branch [
        | then-is_counted+in_ok-push-2 w ↦ key_put (λ k e. is_optional e.dependency || mentioned k) es c.loop-entry.keys.items i c.entry-item.result c.loop-entry-test.true c.entry-item.is c.loop-entry.invariant.keys
            c.if-is_counted.keys.items (ap (λ v. v.items) w.keys-is ∙ w.in_ok-push-2.ensures.items) (sym c.counts-is_counted.ensures ∙ w.if-is_counted.true)
        | else-is_counted w ↦ key_left (λ k e. is_optional e.dependency || mentioned k) es c.loop-entry.keys.items i c.entry-item.result c.loop-entry-test.true c.entry-item.is c.loop-entry.invariant.keys
            c.if-is_counted.keys.items (ap (λ v. v.items) w.keys-is) (sym c.counts-is_counted.ensures ∙ w.if-is_counted.false)
      ];
    }

pub returns-clause-flags : goal.returns-clause-flags
returns-clause-flags c = search (rules, take_all)

pub returns-clause-keys : goal.returns-clause-keys
returns-clause-keys c = subst (λ es. Gathers (λ k e. is_optional e.dependency || is_mentioned_in c.args.mentions.now k) (map (λ t. t.now) c.loop-entry.keys.items) (map entry_of es)) (take_all c.loop-entry.entry-index c.args.entries.now c.loop-entry-test.false) c.loop-entry.invariant.keys
