use Rattle.cargo_toml_discovery.proofs.Cited.{BTreeSet, Bool, Global, HashSet, IfOk-weaker, IsFromIterResult, List, Name, String, YieldsList-from_rest, [], bytes_eq, bytes_eq-Decides, contains_text, false, items_from_drains, list_any, map-id, refl, string_bytes, string_cmp, subst, sym, true, ◌||◌, ◌∙◌, ◌∷◌, ◌≡◌}
use Rattle.cargo_toml_discovery.proofs.Unique.{any_equal}
use Rattle.std.specs.HashSet.{contains_text as has_in}
use Rattle.cargo_toml_discovery.proofs.listings.sorted_names.Goals as goal

abbrev has : Name → List (String Global) → Bool
has t ks = list_any (λ k. bytes_eq t (string_bytes k)) ks

-- a text that is there is one of them
one_of : (t : Name) (ks : List (String Global)) → has t ks ≡ true → (k : String Global) × (t ≡ string_bytes k)
one_of t [] h = cc
one_of t (k ∷ ks) h = elim (bytes_eq t (string_bytes k)) as (λ b. bytes_eq t (string_bytes k) ≡ b → (b || has t ks) ≡ true → (k : String Global) × (t ≡ string_bytes k))
    [ true ↦ λ e _. (k, (bytes_eq-Decides t (string_bytes k)).0 e) | false ↦ λ _ r. one_of t ks r ] refl h

-- which texts are there is known by the names alone
module _ {S : Type 0} (names : HashSet (String Global) S) (s : BTreeSet (String Global)) (made : IsFromIterResult string_cmp names.keys s) where
  at_name : (t : Name) (k : String Global) → t ≡ string_bytes k → has t s.keys ≡ has t names.keys
  at_name t k e = rw e (sym (any_equal (λ k. string_bytes k) (string_bytes k) s.keys) ∙ made.0 k ∙ any_equal (λ k. string_bytes k) (string_bytes k) names.keys)

  both : (t : Name) (a b : Bool) → has t s.keys ≡ a → has t names.keys ≡ b → a ≡ b
  both t true b e d = let k = one_of t s.keys e in sym e ∙ at_name t k.0 k.1 ∙ d
  both t false true e d = let k = one_of t names.keys d in sym e ∙ at_name t k.0 k.1 ∙ d
  both t false false e d = refl

  made_of : (t : Name) → contains_text s t ≡ has_in names t
  made_of t = any_equal (λ k. string_bytes k) t s.keys ∙ both t (has t s.keys) (has t names.keys) refl refl

pub returns : goal.returns
returns c =
    let names = c.args.names in
    let made = IfOk-weaker c.from_iter.result _ (λ s. IsFromIterResult string_cmp names.keys s)
    (λ s h. subst (λ l. IsFromIterResult string_cmp l s) (sym (map-id h.1) ∙ items_from_drains h.1 h.3 (YieldsList-from_rest names.keys h.2.0)) h.4)
    c.from_iter.ensures.ran in
    record {
      names = IfOk-weaker c.from_iter.result _ _ (λ s h. made_of names s h) made;
      ordered = IfOk-weaker c.from_iter.result _ _ (λ s h. h.1) made;
    }
