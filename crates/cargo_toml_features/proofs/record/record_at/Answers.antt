-- Entries recorded one after another.
use Rattle.cargo_toml_features.proofs.Cited.{Bool, Entry, FeatureDependency, None, Option, Slots, Some, Text, ap, bytes_eq, bytes_eq-Decides, bytes_eq_sym, cond, entry_of, false, held_in, names_in, nth_text, option_map, recorded_at, recorded_in, recorded_next, recorded_nowhere, recorded_with, refl, subst, sym, true, unwrap_or, ◌∙◌, ◌≡◌}
use Rattle.cargo_toml_features.proofs.Placed.{put_again, value_put, value_there}
use Rattle.cargo_toml_features.proofs.record.record_at.Goals as goal

module _ (e : Entry) where
  -- e is recorded at the place of its key, from which what was there is taken
  recorded_put : (old new : Slots FeatureDependency) (first held made : FeatureDependency)
      → ((q : Text) → held_in new q ≡ cond (bytes_eq q e.key) (Some made) (held_in old q))
      → recorded_in first ≡ recorded_nowhere e → held ≡ unwrap_or (held_in old e.key) first → recorded_in made ≡ recorded_next (recorded_in held) e
      → (q : Text) → recorded_at new q ≡ cond (bytes_eq e.key q) (Some (recorded_with (recorded_at old q) e)) (recorded_at old q)
  recorded_put old new first held made put first_is held_is made_is q = ap (option_map recorded_in) (put q ∙ ap (λ b. cond b (Some made) (held_in old q)) (bytes_eq_sym q e.key)) ∙ go (bytes_eq e.key q) refl
    where
      here : (o : Option FeatureDependency) → held ≡ unwrap_or o first → Some (recorded_in made) ≡ Some (recorded_with (option_map recorded_in o) e)
      here None h = ap Some (made_is ∙ ap (λ d. recorded_next (recorded_in d) e) h ∙ ap (λ r. recorded_next r e) first_is)
      here (Some d) h = ap Some (made_is ∙ ap (λ d. recorded_next (recorded_in d) e) h)

      go : (b : Bool) → bytes_eq e.key q ≡ b → option_map recorded_in (cond b (Some made) (held_in old q)) ≡ cond b (Some (recorded_with (recorded_at old q) e)) (recorded_at old q)
      go true t = subst (λ v. Some (recorded_in made) ≡ Some (recorded_with (recorded_at old v) e)) ((bytes_eq-Decides e.key q).0 t) (here (held_in old e.key) held_is)
      go false t = refl

pub returns-clause-recorded : goal.returns-clause-recorded
returns-clause-recorded c =
    let s = c.args.dependencies.now in
    let e = entry_of c.args.entry.now in
    let made = c.add_target.new.dependency in
    let there : held_in s e.key ≡ c.take.result =
    ap (held_in s) (sym c.requires.named) ∙ value_there s c.args.key c.requires.key c.index_mut.result.now (rw c.place.ensures at c.index_mut.ensures.value) ∙ sym c.take.ensures.value in
    let put : (q : Text) → held_in c.put.new.self q ≡ cond (bytes_eq q e.key) (Some made) (held_in s q) = λ q.
    put_again (bytes_eq q (nth_text (names_in s) c.args.key)) (Some made) c.take.new.self (held_in s q) _ _ ((rw c.place.ensures at c.put.ensures.held) q) (value_put s c.args.key c.requires.key c.take.new.self q)
    ∙ ap (λ t. cond (bytes_eq q t) (Some made) (held_in s q)) c.requires.named in
    recorded_put e s c.put.new.self c.without_targets-first.result c.unwrap_or-dependency.result made put c.without_targets-first.ensures
    (c.unwrap_or-dependency.ensures ∙ ap (λ o. unwrap_or o c.without_targets-first.result) (sym there)) c.in_ok-add_target.ensures
