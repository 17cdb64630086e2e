use Rattle.std.proofs.Common.{◌≡◌, ◌<◌, List, [], ◌∷◌, length, option_map, refl, arith, rules}
use Rattle.cargo_toml_features.proofs.Targets.{first_recorded, some_recorded}
use Rattle.cargo_toml_features.proofs.redundant.first_dependency.Goals as goal

no_entries : {X : Type 0} (xs : List X) → ¬ (0 < length xs) → xs ≡ []
no_entries [] n = refl
no_entries (x ∷ xs) n = absurd (n (omega arith))

pub returns-in_err-first : goal.returns-in_err-first
returns-in_err-first c = search (rules, no_entries, option_map, some_recorded)

pub returns : goal.returns
returns c = search (rules, first_recorded)
