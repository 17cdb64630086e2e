use Rattle.cargo_toml_audit.proofs.Cited.{YieldsList-at, YieldsList-from_map, YieldsList-from_scan, YieldsList-from_slice, YieldsList-from_zip, accepts, arith, false, items_from_collect, map, part_of, rules, tests, zip, ◌&&◌, ◌||◌, ◌≡◌}
use Rattle.cargo_toml_audit.proofs.members.patterns.one_more.Goals as goal

pub returns-in-Many : goal.returns-in-Many
returns-in-Many c =
    rw c.in-Many.is (items_from_collect _ c.collect.ensures.ran (YieldsList-from_scan _ (λ some here. some || here) (λ some here. some || here) false
    (YieldsList-at c.scan-some.ensures.source (YieldsList-from_slice c.args.reached.now cc)) c.scan-some.ensures.state c.scan-some.ensures.closure (λ b x r q d k. search (rules, tests))))

pub returns : goal.returns
returns c =
    let after : c.in_ok-next.next.items ≡ map (λ p. p.0 && accepts (part_of c.args.wanted.now) p.1) (zip c.args.reached.now c.args.name.now) =
    rw c.in_ok-next.was at (items_from_collect _ c.collect-2.ensures.ran (YieldsList-from_map _ (λ p. p.0 && accepts (part_of c.args.wanted.now) p.1)
    (YieldsList-at c.map-after.ensures.source (YieldsList-from_zip (YieldsList-at c.zip.ensures.first (YieldsList-from_slice c.args.reached.now cc)) (YieldsList-from_slice c.args.name.now cc)))
    c.map-after.ensures.closure (λ x r q k. search (rules, tests)))) in
    grind (arith, after, c.in_ok-insert.ensures.items)
