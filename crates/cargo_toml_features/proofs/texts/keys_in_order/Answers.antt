-- The names that a loop over a map puts into a set.
use Rattle.cargo_toml_features.proofs.Cited.{Bool, List, [], ap, arith, common_steps, is_some-lookup, list_any, or-false, or_assoc, rest_all, rest_more, rules, sym, ◌||◌, ◌∙◌, ◌∷◌, ◌≡◌}
use Rattle.cargo_toml_features.proofs.TextKeys.{inserted}
use Rattle.cargo_toml_features.proofs.texts.keys_in_order.Goals as goal

module _ {A : Type 0} (hits : A → Bool) where
  one_more : (old new : Bool) (x : A) (left rest : List A) (all : Bool) → left ≡ x ∷ rest → new ≡ (old || hits x)
      → (old || list_any hits left) ≡ all → (new || list_any hits rest) ≡ all
  one_more old new x left rest all is put before = grind (arith, common_steps, or_assoc)

  none_left : (old : Bool) (left : List A) (all : Bool) → left ≡ [] → (old || list_any hits left) ≡ all → old ≡ all
  none_left old left all none before = sym (or-false old) ∙ ap (λ es. old || list_any hits es) (sym none) ∙ before

pub loop-key-preserved : goal.loop-key-preserved
loop-key-preserved g c = search (rules, one_more, rest_more, inserted)

pub returns : goal.returns
returns g c = search (rules, none_left, rest_all, is_some-lookup)
