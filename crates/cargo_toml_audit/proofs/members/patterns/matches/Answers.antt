use Rattle.cargo_toml_audit.proofs.Cited.{List, Part, Token, [], ap, arith, chars, common_steps, drop, drop_all, false, get_or, is_many, length, map, matches, next, part_of, reverse, reverse-reverse, sym, true, ◌-◌, ◌∙◌, ◌∷◌, ◌≡◌}
use Rattle.cargo_toml_audit.proofs.Matched.{back_next, first_row, last_row, next_row, row}
use Rattle.cargo_toml_audit.proofs.members.patterns.matches.Goals as goal

pub loop-taken-init : goal.loop-taken-init
loop-taken-init c =
    let cs = c.as_slice-name.result.now in
    let ps = c.args.pattern.now in
    c.in_ok-insert.ensures.items ∙ ap (λ t. true ∷ t) (c.in_ok-reached.ensures.items_if_clones_equal (λ y same. same)) ∙ first_row cs
    ∙ ap (λ (ts : List Token). row (matches (map part_of ts)) [] cs) (sym (drop_all (length ps - 0) ps (omega arith)))

pub loop-taken-preserved : goal.loop-taken-preserved
loop-taken-preserved c =
    let cs = c.as_slice-name.result.now in
    let ps = c.args.pattern.now in
    let i = c.loop-taken.taken in
    let w = part_of c.index-pattern-k.result in
    c.in_ok-reached-2.ensures
    ∙ ap (λ t. next (is_many w) w t cs) (c.as_slice.ensures.value ∙ c.loop-taken.invariant)
    ∙ next_row (is_many w) w (matches (map part_of (drop (length ps - i) ps))) cs
    ∙ ap (λ (ws : List Part). row (matches ws) [] cs) (sym (back_next part_of ps i _ c.index-pattern-k.result (omega arith) (omega arith) c.index-pattern-k.is))

pub returns : goal.returns
returns c =
    let cs = c.as_slice-name.result.now in
    let ps = c.args.pattern.now in
    let none : length ps - c.loop-taken.taken ≡ 0 = omega (arith, c.loop-taken-test.false) in
    let back : reverse cs ≡ chars c.args.name.now =
    ap reverse (c.as_slice-name.ensures.value ∙ c.reverse.ensures.items ∙ ap reverse c.in_ok-name.ensures) ∙ reverse-reverse (chars c.args.name.now) in
    let got : c.unwrap_or.result ≡ get_or c.loop-taken.reached.items (length cs) false = grind (arith, common_steps) in
    got ∙ ap (λ xs. get_or xs (length cs) false) (c.loop-taken.invariant ∙ ap (λ n. row (matches (map part_of (drop n ps))) [] cs) none)
    ∙ last_row (matches (map part_of ps)) cs
    ∙ ap (matches (map part_of ps)) back
