-- The first entries of a table, one after another.
use Rattle.cargo_toml_features.proofs.Cited.{DependencyMeaning, Entries, Kind, Option, Text, arith, common_steps, first_entries, ℕ, ◌+◌, ◌∷◌, ◌≡◌}
use Rattle.cargo_toml_features.proofs.entries.add_first.Goals as goal

one_more : (kind : Kind) (target : Option Text) (key : Text) (d : DependencyMeaning) (es : Entries) (n m : ℕ) → n + 1 ≡ m →
    first_entries m kind target ((key, d) ∷ es) ≡ record { key = key; target = (kind, target); dependency = d } ∷ first_entries n kind target es
one_more kind target key d es n m is = grind (arith, common_steps)

pub loop-key-preserved : goal.loop-key-preserved
loop-key-preserved c = grind (arith, common_steps, one_more)
