-- Worked examples of edges, removal and recursion.
use Rattle.std.proofs.Common.{◌≡◌, ◌≢◌, ◌⊎◌, ◌↔◌, false, ◌||◌, IsTrue, [], ◌∷◌, map, is_some, codes, bytes_eq, refl, sym, subst, inl, inr, ◌∙◌, rules}
use Rattle.std.proofs.lemmas.{Bool.false≢true, Bool.or_cases, Slice.Eq.bytes_eq-Decides}
use Rattle.std.{specs.Map.lookup, specs.List.AllByRecursion, proofs.Common.arith}
use Rattle.cargo_toml_graph.specs.{Action.Text, Admitted.Listed, Admitted.is_explicit, Admitted.is_below, SmallTables.features_alone, SmallTables.left_of, SmallTables.ring}
use Rattle.cargo_toml_graph.specs.{Graph.Table, Graph.KeepsName, Graph.IsEnabledBy, Graph.IsResolved, Graph.IsKept, Reach.Among, Recursive.Enables}
use Rattle.cargo_toml_graph.specs.{Recursive.Enables.itself, Recursive.Enables.further, Redirects.RedirectsTo, Removal.unremoved}
use Rattle.cargo_toml_graph.proofs.{Texts.same, Edges.unremoved_is, Elimination.all_taken_out, RedirectsInOrder.redirect_by_bytes, SortedTexts.all_among, SortedTexts.one_ascends}

-- an explicit name is `default` or listed
looked_up : (listed : Listed) (f : Text) → IsTrue (is_some (lookup (bytes_eq f) listed)) → Among (map (λ e. e.0) listed) f
looked_up [] f e = absurd (false≢true e)
looked_up (l ∷ ls) f e = search (rules, false≢true, same, looked_up ls f)

pub listed_explicit : (listed : Listed) (f : Text) → IsTrue (is_explicit listed f) → (f ≡ codes "default") ⊎ Among (map (λ e. e.0) listed) f
listed_explicit listed f a = search (rules, or_cases, same, looked_up)

pub one : {a b : Text} → IsTrue (bytes_eq a b || false) → a ≡ b
one {a} {b} e = elim (or_cases (bytes_eq a b) false e) [ inl i ↦ same i | inr i ↦ absurd (false≢true i) ]

-- texts of different bytes
pub differ : {a b : Text} → bytes_eq a b ≡ false → a ≢ b
differ {a} {b} e i = false≢true (sym e ∙ (bytes_eq-Decides a b).1 i)

-- r alone is taken out of what is listed, and f stays
module _ (listed : Listed) (r f : Text) (there : IsTrue (is_explicit listed r)) (kept : IsKept (features_alone listed) (Among (r ∷ [])) f) where
  abbrev t : Table
  t = features_alone listed

  there_alone : (v : Text) → Among (r ∷ []) v → IsTrue (t.has v)
  there_alone v0 v1 = grind arith

  left : IsResolved t (Among (r ∷ [])) (left_of t (r ∷ []))
  left = all_taken_out t (r ∷ []) (unremoved t) (unremoved_is t) there_alone ((λ i. i), tt)

  pub names_left : (x : Text) (P : Type 0) → IsTrue ((left_of t (r ∷ [])).table.names f x) ↔ P → KeepsName t (Among (r ∷ [])) f x ↔ P
  names_left x P is = (λ n. is.0 ((left.names f x kept).1 n), λ p. (left.names f x kept).0 (is.1 p))

  -- f is enabled by g, and by no other name that is listed and stays
  abbrev pub IsNoOther : Text → Text → Type 0
  IsNoOther g e = IsTrue ((left_of t (r ∷ [])).enabled_by f e) → (e ≡ g) ⊎ (e ≡ r)

  pub enabler_left : (g : Text) → IsTrue ((left_of t (r ∷ [])).enabled_by f g) → AllByRecursion (IsNoOther g) (codes "default" ∷ map (λ e. e.0) listed)
      → (e : Text) → IsEnabledBy t (Among (r ∷ [])) f e ↔ (e ≡ g)
  enabler_left g on each e = (
    λ n. elim (all_among (IsNoOther g) (codes "default" ∷ map (λ e. e.0) listed) each e (listed_explicit listed e n.0.0) ((left.enabled_by f e kept).1 n)) [ inl is ↦ is | inr is ↦ absurd (n.0.1 (inl is)) ],
    λ is. (left.enabled_by f e kept).0 (subst (λ v. IsTrue ((left_of t (r ∷ [])).enabled_by f v)) (sym is) on),
  )

  pub redirect_left : (x : Text) (P : Type 0) → IsTrue (t.names r x) ↔ P → RedirectsTo t (Among (r ∷ [])) (λ a b. IsTrue (is_below a b)) r x ↔ P
  redirect_left x P is =
      let h = redirect_by_bytes t [] r [] (unremoved t) (unremoved_is t) there_alone (one_ascends r) x in (λ n. is.0 (h.1 n), λ p. h.0 (is.1 p))

-- a enables itself and b, which it names, where it enables no other
pub enables_two : (t : Table) (a b : Text) → ((y : Text) → Enables t a y → (y ≡ a) ⊎ (y ≡ b)) → IsTrue (t.names a b) → IsTrue (t.has b) → (x : Text) → Enables t a x ↔ ((x ≡ a) ⊎ (x ≡ b))
enables_two t a b only named has x = (
  only x,
  elim [
    | inl e ↦ subst (λ v. Enables t a v) (sym e) itself
    | inr e ↦ subst (λ v. Enables t a v) (sym e) (further itself named has)
  ],
)

-- ---- a = ["b", "zz"], b = ["a"]
ring_next : (g y : Text) → (g ≡ codes "a") ⊎ (g ≡ codes "b") → IsTrue (ring.names g y) → IsTrue (ring.has y) → (y ≡ codes "a") ⊎ (y ≡ codes "b")
ring_next v0 v1 v2 v3 v4 = search (rules, or_cases, same, one, false≢true)

ring_only : {y : Text} → Enables ring (codes "a") y → (y ≡ codes "a") ⊎ (y ≡ codes "b")
ring_only itself = inl refl
ring_only (further e n h) = ring_next _ _ (ring_only e) n h

pub ring_enables : (x : Text) → Enables ring (codes "a") x ↔ ((x ≡ codes "a") ⊎ (x ≡ codes "b"))
ring_enables = enables_two ring (codes "a") (codes "b") (λ y e. ring_only e) refl refl
