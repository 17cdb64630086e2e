-- What a removed feature names at its turn, where they are taken in ascending order.
use Rattle.std.proofs.Common.{◌↔◌, IsTrue, List, [], ◌∷◌, ◌++◌, refl, inl, rules}
use Rattle.std.proofs.lemmas.{Bool.false≢true, Cmp.nat_list_cmp_total}
use Rattle.cargo_toml_graph.specs.{Ascending.Ascend, Action.Text, Admitted.is_below, Reach.Among, Reach.IsOnce, Graph.Table, Graph.Resolution, Graph.IsKept, Graph.IsUnremoved, Removal.without_all}
use Rattle.cargo_toml_graph.{specs.Redirects.RedirectsTo, proofs.SortedTexts.others_ascend}
use Rattle.cargo_toml_graph.proofs.{Members.label_within, Elimination.all_taken_out, BinLists.among-first, BinLists.among-second, BinLists.among-either, SortedTexts.first_below}

-- no text is below one that is below it
pub below_one_way : (a b : Text) → IsTrue (is_below a b) → IsTrue (is_below b a) → ⊥
below_one_way a b = search (rules, nat_list_cmp_total, false≢true)

abbrev Below : Text → Text → Type 0
Below a b = IsTrue (is_below a b)

earlier_below : (before rest : List Text) → Ascend (before ++ rest) → (v w : Text) → Among before v → Among rest w → Below v w
earlier_below [] rest a v w i j = absurd i
earlier_below (x ∷ xs) rest a v w i j = search (rules, first_below, among-second, others_ascend, earlier_below xs rest)

rest_ascends : (before rest : List Text) → Ascend (before ++ rest) → Ascend rest
rest_ascends [] rest a = a
rest_ascends (x ∷ xs) rest a = rest_ascends xs rest (others_ascend x (xs ++ rest) a)

front_once : (before rest : List Text) → Ascend (before ++ rest) → IsOnce before
front_once [] rest a = tt
front_once (x ∷ xs) rest a = ((λ i. let b = first_below x (xs ++ rest) a x (among-first xs rest x i) in below_one_way x x b b), front_once xs rest (others_ascend x (xs ++ rest) a))

module _ (t : Table) (before : List Text) (r : Text) (after : List Text) (m : Resolution) (start : IsUnremoved t m)
    (there : (v : Text) → Among (before ++ r ∷ after) v → IsTrue (t.has v)) (ascending : Ascend (before ++ r ∷ after)) where
  abbrev Earlier : Text → Type 0
  Earlier v = Among (before ++ r ∷ after) v × Below v r

  into : (v : Text) → Among before v → Earlier v
  into v i = (among-first before (r ∷ after) v i, earlier_below before (r ∷ after) ascending v r i (inl refl))

  back : (v : Text) → Earlier v → Among before v
  back v e = search (rules, among-either, below_one_way, first_below, rest_ascends)

  pub redirect_by_bytes : (x : Text) → IsTrue ((without_all before m).table.names r x) ↔ RedirectsTo t (Among (before ++ r ∷ after)) Below r x
  redirect_by_bytes x =
      let h = all_taken_out t before m start (λ v i. there v (among-first before (r ∷ after) v i)) (front_once before (r ∷ after) ascending) in
      let here : IsKept t (Among before) r = (there r (among-second before (r ∷ after) r (inl refl)), λ i. let b = (into r i).1 in below_one_way r r b b) in (
        λ y. let n = (h.names r x here).0 y in (label_within (λ b z. IsTrue (t.names b z)) (Among before) Earlier into r x n.0, λ s. n.1 (back x s)),
        λ n. (h.names r x here).1 (label_within (λ b z. IsTrue (t.names b z)) Earlier (Among before) back r x n.0, λ s. n.1 (into x s)),
      )
