-- The features that no feature enables, from what a resolution with nothing removed tells.
use Rattle.cargo_toml_bench.proofs.Cited.{AreUnreferenced, Ascend, BTreeSet, Bor, Edge, Feature, HashMap, IsKept, IsResolved, IsTrue, IsUnreferenced, List, None, Option, Reaches, Some, Table, Text, [], and_from, and_parts, ap, arith, btree_set_len, bytes_eq-Decides, bytes_eq_refl, codes, edge, eqb-true, false, false_from_ne_true, false≢true, filter, is_alone, is_alone_at}
use Rattle.cargo_toml_bench.proofs.Cited.{is_among-true, is_at, is_eq-slice_cmp, is_removed, is_some, length, list_any, lists_text, nat_cmp, not-true, not_from_false, option_map_or, or_left, refl, resolution_of, slice_cmp, sym, those_among, those_ascend, true, value_at, ◌==◌, ◌↔◌, ◌∙◌, ◌∷◌, ◌≡◌}
use Rattle.cargo_toml.specs.Views.{set_has}

-- a filter that keeps each feature removes none
pub nothing_removed : (t : Table) (f : Text) → ¬ IsTrue (is_removed t (λ _. true) f)
nothing_removed t f removed = false≢true (and_parts _ _ removed).1

-- a set without texts
quiet : (s : BTreeSet (Bor Text)) → IsTrue (btree_set_len s == 0) ↔ ((e : Text) → ¬ IsTrue (set_has s e))
quiet s = go s.keys
  where
    go : (ks : List (Bor Text)) → IsTrue (length ks == 0) ↔ ((e : Text) → ¬ IsTrue (list_any (is_at (λ k. slice_cmp nat_cmp e k.now)) ks))
    go [] = (λ y e h. false≢true h, λ n. refl)
    go (k ∷ ks) = (λ y. absurd (let none : length (k ∷ ks) ≡ 0 = eqb-true _ _ y in omega arith), λ n. absurd (n k.now (or_left _ _ (is_eq-slice_cmp k.now k.now ∙ bytes_eq_refl k.now))))

module _ {S : Type 0} (m : HashMap (Bor Text) Feature S) (t : Table) (Removed : Text → Type 0) (none : (f : Text) → ¬ Removed f) (resolved : IsResolved t Removed (resolution_of m)) where
  kept : (f : Text) → IsTrue (t.has f) → IsKept t Removed f
  kept f known = (known, none f)

  only : {a b : Text} → Reaches (Edge t) Removed a b → Edge t a b
  only p = grind arith

  -- the enablers of a feature are the sources of its edges
  enablers : (f e : Text) → IsTrue (t.has f) → IsTrue ((resolution_of m).enabled_by f e) ↔ Edge t e f
  enablers f e known = (
    λ y. only ((resolved.enabled_by f e (kept f known)).0 y).1,
    λ d. (resolved.enabled_by f e (kept f known)).1 (kept e d.source, edge d),
  )

  pub alone_is : (f : Text) → IsTrue (is_alone_at m f) ↔ IsUnreferenced t f
  alone_is f = go (value_at m f) refl
    where
      go : (o : Option Feature) → value_at m f ≡ o → IsTrue (option_map_or (is_alone f) o false) ↔ IsUnreferenced t f
      go None is = (λ y. absurd (false≢true y), λ u. absurd (false≢true (sym (ap is_some is) ∙ (resolved.kept f).1 (kept f u.known))))
      go (Some v) is =
          let known : IsTrue (t.has f) = ((resolved.kept f).0 (ap is_some is)).0 in
          let told : (e : Text) → option_map_or (λ v. set_has v.enabled_by e) (value_at m f) false ≡ set_has v.enabled_by e = λ e. ap (λ o. option_map_or (λ v. set_has v.enabled_by e) o false) is in (
            λ y. record {
              known = known;
              named = λ e. false≢true (sym (not-true _ (and_parts _ _ y).1) ∙ (bytes_eq-Decides f (codes "default")).1 e);
              alone = λ e d. (quiet v.enabled_by).0 (and_parts _ _ y).0 e (sym (told e) ∙ (enablers f e known).1 d);
            },
            λ u. grind (arith, and_from, quiet, enablers, not_from_false, false_from_ne_true, bytes_eq-Decides),
          )

  -- those among the names in order
  pub all_alone : (names found : List Text) → ((f : Text) → lists_text names f ≡ is_some (value_at m f)) → Ascend names → found ≡ filter (is_alone_at m) names → AreUnreferenced t found
  all_alone names found all up are = record {
    exact = λ f. let by = those_among (is_alone_at m) names found are f in (
      λ i. (alone_is f).0 (by.0 i).1,
      λ u. by.1 (is_among-true names f (all f ∙ (resolved.kept f).1 (kept f u.known)), (alone_is f).1 u),
    );
    in_order = those_ascend (is_alone_at m) names found are up;
  }
