use Rattle.std.proofs.Common.{◌≡◌, [], refl, subst, rules}
use Rattle.toml.proofs.Views.{Entry}
use Rattle.cargo_toml_parts.proofs.Readers.{OthersSoFar, others_start, others_push, others_end, others_err}
use Rattle.cargo_toml_parts.proofs.read.owned_pairs.Goals as goal

pub loop-key-init : goal.loop-key-init
loop-key-init g c =
    rw c.in_ok-pairs.ensures.items (others_start _ _ g.T.Read.meaning g.T.Read.reads g.T.Read.refuses _ _ (search rules))

pub loop-key-preserved : goal.loop-key-preserved
loop-key-preserved g c =
    let es = c.into_iter-key-iterator.result in
    let e : Entry = (c.in-Some.key, c.in-Some.member) in
    let so_far = subst (λ rest. OthersSoFar _ _ g.T.Read.meaning g.T.Read.reads g.T.Read.refuses [] es rest c.loop-key.pairs.items) c.in-Some.ensures.steps c.loop-key.invariant in
    others_push _ _ g.T.Read.meaning g.T.Read.reads g.T.Read.refuses [] es c.next.new.self c.loop-key.pairs.items _ c.in-Some.key e c.in_ok-read_owned.field-0 so_far refl
    refl c.in_ok-read_owned.ensures.reads c.in_ok-push.ensures.items

pub returns-in_err-read_owned-clause-reads : goal.returns-in_err-read_owned-clause-reads
returns-in_err-read_owned-clause-reads g c =
    let es = c.into_iter-key-iterator.result in
    let e : Entry = (c.in-Some.key, c.in-Some.member) in
    let so_far = subst (λ rest. OthersSoFar _ _ g.T.Read.meaning g.T.Read.reads g.T.Read.refuses [] es rest c.loop-key.pairs.items) c.in-Some.ensures.steps c.loop-key.invariant in
    let whole : es ≡ c.args.table.entries = search rules in
    let bad = others_err _ _ g.T.Read.meaning g.T.Read.reads g.T.Read.refuses [] es c.next.new.self c.loop-key.pairs.items e c.in_err-read_owned.field-0.0 so_far refl c.in_err-read_owned.ensures.reads in
    search (rules, bad)

pub returns-clause-reads : goal.returns-clause-reads
returns-clause-reads g c =
    let es = c.into_iter-key-iterator.result in
    let so_far = subst (λ rest. OthersSoFar _ _ g.T.Read.meaning g.T.Read.reads g.T.Read.refuses [] es rest c.loop-key.pairs.items) c.in-None.ensures.steps.0 c.loop-key.invariant in
    let whole : es ≡ c.args.table.entries = search rules in
    rw (← whole) (others_end _ _ g.T.Read.meaning g.T.Read.reads g.T.Read.refuses [] es c.loop-key.pairs.items so_far)

pub returns-clause-ascend : goal.returns-clause-ascend
returns-clause-ascend g c = c.loop-key.invariant.ascend
