use Rattle.cargo_toml_lint.proofs.Cited.{◌&&◌, ◌||◌, ◌↔◌, ◌∙◌, ◌≡◌, ◌⊎◌, [], and_from, and_parts, append_assoc, arith, CountsBy, false, get_or_read, is_hidden, IsFound, name_at, not, private_at, subst, sym, Text}
use Rattle.cargo_toml_lint.proofs.{Counted.all_found, Counted.apart, Leading.cyclic_at, Leading.only_default_at, Leading.unreachable_at}
use Rattle.cargo_toml_lint.proofs.walks.add_place.Goals as goal

pub returns : goal.returns
returns g c =
    let l = c.args.links.now in
    let m = c.args.features.now in
    let w = c.args.walks.now in
    let place = c.args.place in
    let told = rw c.name-name.ensures at c.is_implied.ensures in
    let hidden = rw c.name-name.ensures at c.is_hidden.ensures in
    let private = rw c.name-name.ensures at c.is_private.ensures in
    let internal : (c.is_hidden.result || c.is_private.result) ≡ (is_hidden (name_at l place) || private_at m (name_at l place)) = λ i. hidden i || private i in
    let alone = apart (get_or_read w.by_default.items place c.index.result.now (omega arith) c.index.ensures false)
    (get_or_read w.by_others.items place c.index-2.result.now (omega arith) c.index-2.ensures false) in
    let left = apart (rw c.name-name.ensures at c.is_hidden-2.ensures) (get_or_read w.reached.items place c.index-3.result.now (omega arith) c.index-3.ensures false) in
    let found = c.args.found.now.items in
    let new = c.add_if-4.new.found.items in
    λ t are none d f x.
    let inside = c.requires.inside in
    let only = only_default_at t l are none w c.requires.walks place inside in
    let ring = cyclic_at t l are none w c.requires.walks place inside in
    let away = unreachable_at t l are none w c.requires.walks place inside in
    subst (λ (n : Text). IsFound new d f x ↔ (IsFound found d f x
    ⊎ ((x ≡ []) × (n ≡ f) × CountsBy m t d f))) c.name-name.ensures
    (all_found m t c.name-name.result.now c.is_implied.result
    ((c.is_hidden.result || c.is_private.result) && (c.index.result.now && not c.index-2.result.now)) c.is_in_ring.result (c.is_hidden-2.result && not c.index-3.result.now)
    (rw c.name-name.ensures (λ h. sym told ∙ h, λ h. told ∙ h))
    (rw c.name-name.ensures (
      λ h. let r = and_parts _ _ h in (sym internal ∙ r.0, only.0 (alone.0 r.1)),
      λ h. and_from _ _ (internal ∙ h.0) (alone.1 (only.1 h.1)),
    ))
    (rw c.name-name.ensures (λ h. ring.0 (c.is_in_ring.ensures.0 h), λ h. c.is_in_ring.ensures.1 (ring.1 h)))
    (rw c.name-name.ensures (λ h. away.0 (left.0 h), λ h. left.1 (away.1 h)))
    found new (grind (arith, append_assoc, c.in_ok-add_if.ensures, c.in_ok-add_if-2.ensures, c.in_ok-add_if-3.ensures, c.in_ok-add_if-4.ensures)) d f x)
