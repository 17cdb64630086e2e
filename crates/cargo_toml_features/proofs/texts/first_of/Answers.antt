use Rattle.cargo_toml_features.proofs.Cited.{AllWithin, Among, HoldsAt, IfSome, IsFirst-from_position, List, MatchOption, None, Option, Some, Text, YieldsList-from_slice, [], arith, bytes_eq-Decides, get_or, get_or-map, length, length-map, map, nth_text, rules, sym, ℕ, ◌<◌, ◌∙◌, ◌≡◌}
use Rattle.cargo_toml_features.proofs.{ByPlace.at_among, Rising.one_at}
use Rattle.cargo_toml_features.proofs.texts.first_of.Goals as goal

module _ {V : Type 0} (text : V → Text) (vs : List V) (f : Text) where
  -- the first place of the name, if there is one
  abbrev IsFirstPlace : Option ℕ → Type 0
  IsFirstPlace o =
      MatchOption o (AllWithin (λ v. ¬ (text v ≡ f)) vs 0 (length vs))
      (λ i. (i < length vs) × HoldsAt (λ v. text v ≡ f) vs i × AllWithin (λ v. ¬ (text v ≡ f)) vs 0 i)

  text_at : (i : ℕ) (d : V) → i < length vs → nth_text (map text vs) i ≡ text (get_or vs i d)
  text_at i d below = get_or-map text vs i d [] below

  there_is : (o : Option ℕ) → IsFirstPlace o → IfSome o (λ i. (i < length vs) × (nth_text (map text vs) i ≡ f))
  there_is None first = tt
  there_is (Some i) first = let d = one_at vs i first.0 in (first.0, text_at i d first.0 ∙ first.1 d)

  there_is_none : (o : Option ℕ) → IsFirstPlace o → o ≡ None → ¬ Among (map text vs) f
  there_is_none None first is there =
      let k = at_among (map text vs) f [] there in
      let below : k.0 < length vs = (let inside = k.1 in omega (arith, inside, length-map vs text)) in
      let d = one_at vs k.0 below in
      first k.0 d (omega arith) below (sym (text_at k.0 d below) ∙ k.2)
  there_is_none (Some i) first is there = absurd cc

pub returns : goal.returns
returns g c =
    let text = g.T.Named.text in
    let vs = c.args.all.now in
    let f = c.args.name.now in
    let first : IsFirstPlace text vs f c.position.result = IsFirst-from_position _ _ c.position.result (λ v. text v ≡ f) (λ v. ¬ (text v ≡ f)) c.position.ensures.ran (YieldsList-from_slice vs c.iter.ensures.rest) (λ x q k. search (rules, bytes_eq-Decides)) (λ x q k. search (rules, bytes_eq-Decides)) in
    record { found = there_is text vs f c.position.result first; missing = there_is_none text vs f c.position.result first }
