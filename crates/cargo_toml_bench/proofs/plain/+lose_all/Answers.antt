use Rattle.cargo_toml_bench.proofs.Cited.{ChangesAll, IsOnce, Loses, MatchOption-at_none, nil_from_length, subst, sym, texts_now}
use Rattle.cargo_toml_bench.proofs.Taken.{nothing_changes, turn}
use Rattle.cargo_toml_bench.proofs.plain.+lose_all.Goals as goal

pub returns-in_default : goal.returns-in_default
returns-in_default g t c = λ _.
    subst (λ ks. ChangesAll (Loses c.args.gone.now c.args.key.now) (texts_now ks) c.args.features.now c.args.features.now)
    (sym (nil_from_length c.args.names.now (MatchOption-at_none _ _ c.in_default.is c.split_first.ensures.cases)))
    (nothing_changes (Loses c.args.gone.now c.args.key.now) c.args.features.now)

pub returns : goal.returns
returns g t c = λ all_once.
    let split = c.in-Some.ensures.cases.0 in
    let once = subst (λ ks. IsOnce (texts_now ks)) split all_once in
    let Changes = Loses c.args.gone.now c.args.key.now in
    subst (λ ks. ChangesAll Changes (texts_now ks) c.args.features.now c.lose_all.new.features) (sym split)
    (turn Changes c.in-Some.name.now.now (texts_now c.in-Some.others.now) c.args.features.now c.lose_at.new.features c.lose_all.new.features
    once.0 c.in_ok-lose_at.ensures (c.in_ok-lose_all.ensures once.1))
