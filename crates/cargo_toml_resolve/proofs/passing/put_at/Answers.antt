use Rattle.std.proofs.Common.{refl}
use Rattle.cargo_toml_resolve.{specs.Texts.texts_now, proofs.BinTurns.know_one, proofs.BinTurns.on_ok_weaker, proofs.BinTurns.put_one}
use Rattle.cargo_toml_resolve.proofs.passing.put_at.Goals as goal

pub returns-clause-put : goal.returns-clause-put
returns-clause-put c =
    let v = c.index_mut-feature.result.now in
    on_ok_weaker c.put_bins.result _ _ (λ put. rw c.place.ensures (put_one c.args.features.now.items c.args.at (record v { required_by_bins = c.put_bins.new.own }) c.requires.at v (texts_now c.args.bins.now)
    (rw c.place.ensures at c.index_mut-feature.ensures.value) refl put)) c.put_bins.ensures.put

pub returns-clause-known : goal.returns-clause-known
returns-clause-known c =
    let v = c.index_mut-feature.result.now in
    on_ok_weaker c.put_bins.result _ _ (λ known. rw (c.place-2.ensures, c.place.ensures) (know_one c.args.features.now.items c.args.at (record v { required_by_bins = c.put_bins.new.own }) c.requires.at
    c.args.known.now.items c.put_bins.new.known c.requires.known known)) c.put_bins.ensures.known
