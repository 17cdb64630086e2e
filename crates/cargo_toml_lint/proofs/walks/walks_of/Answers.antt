use Rattle.cargo_toml_lint.proofs.Cited.{◌≡◌, ap, arith, bytes_eq, codes, not, rules}
use Rattle.cargo_toml_lint.proofs.Leading.{led_more}
use Rattle.cargo_toml_lint.proofs.walks.walks_of.Goals as goal

pub loop-a-preserved : goal.loop-a-preserved
loop-a-preserved c =
    let told : c.eq-is_default.result ≡ bytes_eq c.name-name.result.now (codes "default") = search rules in
    let is = rw c.name-name.ensures at told in
    let shown = ap not (rw c.name-name.ensures at c.is_hidden.ensures) in
    record {
      reached = led_more c.loop-a.a _ _ _ shown c.loop-a.invariant.reached c.add_reached.ensures.len c.add_reached.ensures.flags;
      by_default = led_more c.loop-a.a _ _ _ is c.loop-a.invariant.by_default c.add_named.ensures.len (λ y. grind (arith, c.add_named.ensures.flags y));
      by_others = led_more c.loop-a.a _ _ _ (ap not is) c.loop-a.invariant.by_others c.add_named-in-loop-a.ensures.len (λ y. grind (arith, c.add_named-in-loop-a.ensures.flags y));
    }
