-- The values of slots, in the order of their names.
use Rattle.cargo_toml_features.proofs.Cited.{Bool, List, None, Option, Text, [], arith, bytes_eq, common_steps, cond, false, held_among, refl, replicate, replicate-append-replicate, rules, suc, true, zero, ℕ, ◌∷◌, ◌≡◌}
use Rattle.cargo_toml_features.proofs.places.empty_slots.Goals as goal

-- where no name has a value
none_anywhere : {V : Type 0} (ns : List Text) (count : ℕ) (f : Text) → held_among {V = V} ns (replicate count None) f ≡ None
none_anywhere [] count f = refl
none_anywhere (n ∷ ns) zero f = refl
none_anywhere {V} (n ∷ ns) (suc count) f = go (bytes_eq f n) (held_among ns (replicate count None) f) (none_anywhere ns count f)
  where
    go : (t : Bool) (o : Option V) → o ≡ None → cond t None o ≡ None
    go true o later = refl
    go false o later = later

pub loop-preserved : goal.loop-preserved
loop-preserved g c = grind (arith, common_steps, replicate-append-replicate)

pub returns-clause-empty : goal.returns-clause-empty
returns-clause-empty g c = search (rules, none_anywhere)
