-- What all features of some names do to dependencies.
use Rattle.cargo_toml_tools.proofs.Cited.{[], ◌∙◌, ◌∷◌, ◌≡◌, ◌⊎◌, Action, ActsOf, ap, at_head, Bor, bytes_eq_refl, false≢true, Feature, fold, has_in, HashMap, inl, inr, is_eq-slice_cmp, IsJoin, IsTrue, join_alike, join_halves, join_one, join_option, List, None, Option, or_left, or_right, Some, subst, sym, table_in, Text}

module _ {S : Type 0} (m : HashMap (Bor Text) Feature S) (k : Text) where
  -- what the features of these names do to the dependency, joined to more
  abbrev pub joined : Option Action → List (Bor Text) → Option Action
  joined o ks = fold (λ o q. join_option o ((table_in m).action q.now k)) o ks

  pub joined_next : (o p : Option Action) (q : Bor Text) (left rest : List (Bor Text)) (whole : Option Action) → left ≡ q ∷ rest
      → p ≡ join_option o ((table_in m).action q.now k) → joined o left ≡ whole → joined p rest ≡ whole
  joined_next o p q left rest whole is more before = ap (λ a. joined a rest) more ∙ sym (ap (joined o) is) ∙ before

  folded : (ks : List (Bor Text)) (P : Action → Type 0) (o : Option Action) → IsJoin P o → IsJoin (λ a. P a ⊎ ActsOf m (λ g. IsTrue (has_in ks g)) k a) (joined o ks)
  folded [] P o h = join_alike (λ a. (inl, elim [ inl p ↦ p | inr e ↦ absurd (false≢true e.1) ])) o h
  folded (q ∷ ks) P o h =
      join_alike
      (λ a. (
        elim [ inl s ↦ elim s [ inl p ↦ inl p | inr e ↦ inr (q.now, or_left _ _ (is_eq-slice_cmp q.now q.now ∙ bytes_eq_refl q.now), e) ] | inr e ↦ inr (e.0, or_right _ _ e.1, e.2) ],
        elim [
          | inl p ↦ inl (inl p)
          | inr e ↦ elim (at_head q ks e.0 e.1) [ inl s ↦ inl (inr (subst (λ g. (table_in m).action g k ≡ Some a) s e.2)) | inr i ↦ inr (e.0, i, e.2) ]
        ],
      ))
      _
      (folded ks (λ a. P a ⊎ ((table_in m).action q.now k ≡ Some a)) (join_option o ((table_in m).action q.now k))
      (join_halves (λ a. (λ s. s, λ s. s)) o ((table_in m).action q.now k) h (join_one ((table_in m).action q.now k))))

  pub joined_is : (ks : List (Bor Text)) → IsJoin (ActsOf m (λ g. IsTrue (has_in ks g)) k) (joined None ks)
  joined_is ks = join_alike (λ a. (elim [ inl n ↦ absurd n | inr e ↦ e ], λ e. inr e)) _
      (folded ks (λ a. ⊥) None (record { there = (λ e. absurd (false≢true e), λ e. absurd e.1); plain = tt; dep_only = tt; features = tt }))
