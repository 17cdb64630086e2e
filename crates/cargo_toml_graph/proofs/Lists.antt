-- What the items of a feature's list say together.
use Rattle.std.proofs.Common.{◌≡◌, ◌⊎◌, ◌↔◌, IsTrue, List, [], ◌∷◌, Option, Some, None, fold, refl, subst, inl, inr, rules}
use Rattle.std.proofs.lemmas.{Bool.false≢true, Bool.or_cases, Bool.or_left, Bool.or_right, Slice.Eq.bytes_eq-Decides}
use Rattle.std.specs.List.{list_any}
use Rattle.cargo_toml_graph.specs.{Action.Text, Action.Action, Action.Item, Action.IsJoin, Action.join_option, Action.Item.Name, Action.Item.On, Admitted.Listed, Admitted.items, Admitted.item_names}
use Rattle.cargo_toml_graph.specs.{Admitted.action_on, Admitted.names, Admitted.joined_action, Reach.Among}
use Rattle.cargo_toml_graph.proofs.{Joins.join_alike, Joins.join_halves, Joins.join_one, Texts.same}

module _ (listed : Listed) where
  -- some item of the list acts so on k
  abbrev Acts : Text → List Item → Action → Type 0
  Acts k is a = (i : Item) × Among is i × (action_on k i ≡ Some a)

  folded : (k : Text) (is : List Item) (P : Action → Type 0) (o : Option Action) → IsJoin P o → IsJoin (λ a. P a ⊎ Acts k is a) (fold (λ o i. join_option o (action_on k i)) o is)
  folded k [] P o h = join_alike (λ a. (inl, elim [ inl p ↦ p | inr e ↦ absurd e.1 ])) o h
  folded k (i ∷ is) P o h =
      join_alike
      (λ a. (
        elim [ inl s ↦ elim s [ inl p ↦ inl p | inr e ↦ inr (i, inl refl, e) ] | inr e ↦ inr (e.0, inr e.1, e.2) ],
        elim [
          | inl p ↦ inl (inl p)
          | inr e ↦ elim (e.1) [ inl s ↦ inl (inr (subst (λ j. action_on k j ≡ Some a) s e.2)) | inr m ↦ inr (e.0, m, e.2) ]
        ],
      ))
      _
      (folded k is (λ a. P a ⊎ (action_on k i ≡ Some a)) (join_option o (action_on k i)) (join_halves (λ a. (λ s. s, λ s. s)) o (action_on k i) h (join_one (action_on k i))))

  none : IsJoin (λ a. ⊥) None
  none = record { there = (λ e. absurd (false≢true e), λ e. absurd e.1); plain = tt; dep_only = tt; features = tt }

  pub joined_is_join : (f k : Text) → IsJoin (Acts k (items listed f)) (joined_action listed f k)
  joined_is_join f k = join_alike (λ a. (elim [ inl n ↦ absurd n | inr e ↦ e ], λ e. inr e)) _ (folded k (items listed f) (λ a. ⊥) None none)

  named : (x : Text) (is : List Item) → IsTrue (list_any (item_names x) is) ↔ Among is (Name x)
  named x [] = (λ e. false≢true e, λ i. absurd i)
  named x (Name y ∷ is) = search (rules, false≢true, or_cases, same, or_left, bytes_eq-Decides, or_right, named x is)
  named x (On k a ∷ is) = search (rules, false≢true, or_cases, same, or_left, bytes_eq-Decides, or_right, named x is)

  pub names_are_named : (f x : Text) → IsTrue (names listed f x) ↔ Among (items listed f) (Name x)
  names_are_named f x = named x (items listed f)
