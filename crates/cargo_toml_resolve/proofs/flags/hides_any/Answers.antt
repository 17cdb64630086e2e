use Rattle.cargo_toml_resolve.proofs.Cited.{IsFlagOf, below_more, false, length, refl, slice_get_read, subst, sym}
use Rattle.cargo_toml_resolve.proofs.InPlace.{name_in}
use Rattle.cargo_toml_resolve.proofs.flags.hides_any.Goals as goal

pub loop-feature-preserved : goal.loop-feature-preserved
loop-feature-preserved g c =
    let vs = c.args.features.now in
    let i = c.loop-feature.feature-index in
    let v = c.feature-item.result in
    let name = sym (name_in vs i v (slice_get_read vs (length vs) i v refl c.loop-feature-test.true c.feature-item.is)) in
    below_more _ _ c.loop-feature.invariant (subst (λ n. IsFlagOf g.F.Fn c.args.filter n false) name c.if-is_hidden.ensures.flag)
