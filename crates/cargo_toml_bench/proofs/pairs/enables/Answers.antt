use Rattle.cargo_toml_bench.proofs.Cited.{AreEnabled, Bool, Bor, Feature, Found, HasEnabling, HashMap, IsKeyed, IsResolved, IsTrue, MAX_ITEMS, None, Some, Table, Text, ap, arith, enables_in, enables_out, false, is_removed, is_some, key_of, manifest_meaning, option_copied, parsed_table, resolution_of, sym, true, value_at, ◌↔◌, ◌∙◌, ◌≡◌}
use Rattle.cargo_toml_bench.proofs.Unreferenced.{nothing_removed}
use Rattle.cargo_toml_features.proofs.NoneRemoved.{held}
use Rattle.cargo_toml_bench.proofs.pairs.enables.Goals as goal

-- What the walk over a map of features tells, where none is removed, is what the table tells.
module _ {S : Type 0} (m : HashMap (Bor Text) Feature S) (t : Table) (Removed : Text → Type 0)
    (none : (f : Text) → ¬ Removed f) (resolved : IsResolved t Removed (resolution_of m))
    (name other : Text) where
  -- the feature under the name enables those that are found
  told_in : IsKeyed m → (v : Feature) → value_at m name ≡ Some v → (found : Found S)
      → AreEnabled m v.key.now found → (answer : Bool) → answer ≡ is_some (value_at found other)
      → IsTrue answer ↔ HasEnabling t name other
  told_in keyed v here found enabled answer told = grind (arith, key_of, enables_in, enables_out)

  -- no feature has the name
  missing_in : value_at m name ≡ None → IsTrue false ↔ HasEnabling t name other
  missing_in missing = grind (arith, held)

pub returns-in_default-clause-answer : goal.returns-in_default-clause-answer
returns-in_default-clause-answer g c =
    let t = parsed_table MAX_ITEMS (manifest_meaning (λ m. m) c.args.manifest.now) in
    missing_in c.in_ok-resolved.resolved.features t (λ x. IsTrue (is_removed t (λ _. true) x))
    (nothing_removed t) c.in_ok-resolved.ensures.resolved.kept.resolved c.args.name.now
    c.args.other.now (sym c.get.ensures.value ∙ ap option_copied c.in_default.is)

pub returns-clause-answer : goal.returns-clause-answer
returns-clause-answer g c =
    let t = parsed_table MAX_ITEMS (manifest_meaning (λ m. m) c.args.manifest.now) in
    told_in c.in_ok-resolved.resolved.features t (λ x. IsTrue (is_removed t (λ _. true) x))
    (nothing_removed t) c.in_ok-resolved.ensures.resolved.kept.resolved c.args.name.now
    c.args.other.now c.in_ok-resolved.ensures.keyed c.in-Some.feature.now
    (sym c.get.ensures.value ∙ ap option_copied c.in-Some.is) c.in_ok-features.features
    c.in_ok-features.ensures.features c.contains_key.result c.contains_key.ensures
