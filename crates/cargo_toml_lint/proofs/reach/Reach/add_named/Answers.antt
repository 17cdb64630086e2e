use Rattle.cargo_toml_lint.proofs.Cited.{◌&&◌, ◌<◌, ◌∙◌, ◌≡◌, and_from, and_parts, arith, Bool, Decides-eqb, false≢true, get_or, IsWhole, length, length-set, List, nat_eq, not, not-true, not_from_false, Reach, row_at, take_all, ℕ}
use Rattle.cargo_toml_lint.proofs.{Rows.among_more, Rows.flag_or, Searching.target_at}
use Rattle.cargo_toml_lint.proofs.reach.Reach.add_named.Goals as goal

bound : (r : Reach) (a i : ℕ) (targets : List ℕ) (flags : List Bool) → IsWhole r → targets ≡ row_at r.next.items a → i < length targets → length flags ≡ length r.next.items
    → get_or targets i 0 < length flags
bound r a i targets flags whole is lt wide = let inside = whole.inside a _ (target_at r a i targets is lt) in omega (arith, inside, wide)

pub index_mut-requires : goal.index_mut-requires
index_mut-requires c =
    let lt = bound c.args.self.now c.args.a c.loop-x.x-index c.targets-x-items.result.now c.loop-x.flags.items c.requires.finished.whole c.targets-x-items.ensures c.loop-x-test.true (c.loop-x.invariant.len ∙ c.requires.wide) in
    omega (arith, lt)

pub loop-x-preserved : goal.loop-x-preserved
loop-x-preserved c =
    let targets = c.targets-x-items.result.now in
    let x = get_or targets c.loop-x.x-index 0 in
    let b = c.args.is_wanted && not (nat_eq x c.args.a) in
    let lt = bound c.args.self.now c.args.a c.loop-x.x-index targets c.loop-x.flags.items c.requires.finished.whole c.targets-x-items.ensures c.loop-x-test.true (c.loop-x.invariant.len ∙ c.requires.wide) in
    record {
      len = length-set c.loop-x.flags.items x _ ∙ c.loop-x.invariant.len;
      flags = λ y. grind (arith, flag_or c.loop-x.flags.items x c.index_mut.result.now b lt c.index_mut.ensures.value y, c.loop-x.invariant.flags y, among_more targets c.loop-x.x-index y c.loop-x-test.true, and_parts, and_from, not-true, not_from_false, false≢true, Decides-eqb x c.args.a);
    }

pub returns-clause-flags : goal.returns-clause-flags
returns-clause-flags c = λ b. grind (arith, c.loop-x.invariant.flags b, take_all c.loop-x.x-index c.targets-x-items.result.now (omega arith), c.targets-x-items.ensures)
