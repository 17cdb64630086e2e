-- The texts of a list that pass a test, in their order.
use Rattle.std.proofs.Common.{arith, ◌≡◌, ◌↔◌, ◌++◌, ◌∙◌, Bool, true, false, IsTrue, List, [], ◌∷◌, ap, append_assoc, cond, subst, sym}
use Rattle.std.proofs.lemmas.{Bool.cases_Bool, Bool.false≢true, List.Kept.IsStrictlySortedBy-filter}
use Rattle.std.specs.{Cmp.Lexicographic.slice_cmp, Ordering.nat_cmp, Prelude.filter}
use Rattle.cargo_toml_graph.specs.{Action.Text, Ascending.Ascend, Reach.Among}

module _ (p : Text → Bool) where
  filtered_among : (ts : List Text) (x : Text) → Among (filter p ts) x ↔ (Among ts x × IsTrue (p x))
  filtered_among [] x = (λ i. absurd i, λ h. absurd h.0)
  filtered_among (t ∷ ts) x = grind (arith, filtered_among ts x, cases_Bool (p t), false≢true)

  module _ (names found : List Text) (are : found ≡ filter p names) where
    pub those_among : (x : Text) → Among found x ↔ (Among names x × IsTrue (p x))
    those_among x = subst (λ xs. Among xs x ↔ (Among names x × IsTrue (p x))) (sym are) (filtered_among names x)

    pub those_ascend : Ascend names → Ascend found
    those_ascend up = subst Ascend (sym are) (IsStrictlySortedBy-filter (slice_cmp nat_cmp) p names up)

  -- what passed so far, with those that pass of what is left
  module _ (done : List Text) (t : Text) (left rest whole : List Text) (is : left ≡ t ∷ rest) (before : done ++ filter p left ≡ whole) where
    next : {b : Bool} → p t ≡ b → done ++ cond b (t ∷ filter p rest) (filter p rest) ≡ whole
    next e = sym (ap (λ b. done ++ cond b (t ∷ filter p rest) (filter p rest)) e) ∙ ap (λ ts. done ++ filter p ts) (sym is) ∙ before

    pub filter_next : p t ≡ true → (done ++ t ∷ []) ++ filter p rest ≡ whole
    filter_next e = append_assoc done (t ∷ []) (filter p rest) ∙ next e

    pub filter_past : p t ≡ false → done ++ filter p rest ≡ whole
    filter_past e = next e
