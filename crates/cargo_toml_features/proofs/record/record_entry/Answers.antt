-- Entries recorded one after another.
use Rattle.cargo_toml_features.proofs.Cited.{Bool, Entry, FeatureDependency, Option, Slots, Some, Text, arith, bytes_eq, bytes_eq-Decides, common_steps, cond, false, held_in, is_optional, is_some, or-true, recorded_after, recorded_at, recorded_with, rules, subst, true, ◌||◌, ◌≡◌}
use Rattle.cargo_toml_features.proofs.{Placed.unfound, Placed.value_found, record.record_entry.Goals.then-is_counted-via-then-is_counted}
use Rattle.cargo_toml_features.proofs.record.record_entry.Goals as goal

-- e comes to slots
module _ (e : Entry) (mentioned : Text → Bool) (s : Slots FeatureDependency) where
  abbrev counted : Text → Bool
  counted q = is_some (recorded_at s q) || (is_optional e.dependency || mentioned q)

  counted_here : (o : Option FeatureDependency) → held_in s e.key ≡ o → counted e.key ≡ (is_some o || (is_optional e.dependency || mentioned e.key))
  counted_here o is = grind (arith, common_steps)

  counted_there : (b : Bool) → counted e.key ≡ b → (q : Text) → bytes_eq e.key q ≡ true → counted q ≡ b
  counted_there b here q same = subst (λ t. counted t ≡ b) ((bytes_eq-Decides e.key q).0 same) here

  -- where it doesn't count, nothing is recorded
  none_recorded : (o : Option FeatureDependency) → held_in s e.key ≡ o → (is_some o || (is_optional e.dependency || mentioned e.key)) ≡ false → (q : Text) → recorded_at s q ≡ recorded_after mentioned e q (recorded_at s q)
  none_recorded o is off q = grind (arith, common_steps, counted_there, counted_here)

  -- where it counts, it is recorded
  one_recorded : (o : Option FeatureDependency) → held_in s e.key ≡ o → (is_some o || (is_optional e.dependency || mentioned e.key)) ≡ true
      → (n : Slots FeatureDependency) → ((q : Text) → recorded_at n q ≡ cond (bytes_eq e.key q) (Some (recorded_with (recorded_at s q) e)) (recorded_at s q))
      → (q : Text) → recorded_at n q ≡ recorded_after mentioned e q (recorded_at s q)
  one_recorded o is on n put q = grind (arith, common_steps, counted_there, counted_here)

pub returns-in_default-clause-recorded : goal.returns-in_default-clause-recorded
returns-in_default-clause-recorded c = search (rules, none_recorded, unfound)

pub returns-in_ok-record_at-clause-recorded : goal.returns-in_ok-record_at-clause-recorded
returns-in_ok-record_at-clause-recorded c = search (rules, then-is_counted-via-then-is_counted, or-true, value_found, one_recorded)

pub returns-else-is_some-clause-recorded : goal.returns-else-is_some-clause-recorded
returns-else-is_some-clause-recorded c = search (rules, value_found, none_recorded)
