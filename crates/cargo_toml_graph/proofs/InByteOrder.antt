-- Removed features in byte order, and what they pass on in that order.
use Rattle.std.proofs.Common.{◌≡◌, ◌↔◌, ◌≤◌, Bool, IsTrue, List, [], ◌∷◌, ◌++◌, refl, sym, ap₂, subst, inl, inr, ◌∙◌, arith, rules}
use Rattle.std.proofs.lemmas.{Bool.false≢true, Grind.common_steps}
use Rattle.cargo_toml_graph.specs.{Ascending.Ascend, Action.Text, Admitted.is_below, Reach.Among, Reach.IsOnce, Graph.Table, Graph.Resolution, Graph.IsKept, Removal.is_removed}
use Rattle.cargo_toml_graph.specs.{Removal.pass_bins, Removal.pass_all, Removal.unremoved, Removal.without_one, Removal.without_all, Bins.ArePassedOn, Bins.HasBins, Bins.IsComplete, Bins.mentions}
use Rattle.cargo_toml_graph.proofs.{Edges.unremoved_is, Members.reaches_within, PassedBins.bins_are, PassedBins.bins_complete, PassedBins.grown_weaker, PassedBins.passed_alike, BinLists.among-either}
use Rattle.cargo_toml_graph.proofs.{RedirectsInOrder.below_one_way, SortedTexts.first_below, SortedTexts.one_ascends, SortedTexts.others_ascend, SortedTexts.put_first}

abbrev Below : Text → Text → Type 0
Below a b = IsTrue (is_below a b)

-- a list in ascending order has each text once
pub ascending_once : (xs : List Text) → Ascend xs → IsOnce xs
ascending_once [] a = tt
ascending_once (x ∷ xs) a = ((λ i. let b = first_below x xs a x i in below_one_way x x b b), ascending_once xs (others_ascend x xs a))

-- a text above all others goes to the end
pub ascending_last : (xs : List Text) (r : Text) → Ascend xs → ((v : Text) → Among xs v → IsTrue (is_below v r)) → Ascend (xs ++ r ∷ [])
ascending_last [] r a above = one_ascends r
ascending_last (x ∷ xs) r a above = search (rules, put_first, among-either, first_below, others_ascend, ascending_last xs r)

-- there is one list in ascending order of the same texts
pub one_order : (xs ys : List Text) → Ascend xs → Ascend ys → ((v : Text) → Among xs v ↔ Among ys v) → xs ≡ ys
one_order [] [] a b same = refl
one_order [] (y ∷ ys) a b same = absurd ((same y).1 (inl refl))
one_order (x ∷ xs) [] a b same = absurd ((same x).0 (inl refl))
one_order (x ∷ xs) (y ∷ ys) a b same = ap₂ (λ z zs. z ∷ zs) first (one_order xs ys (others_ascend x xs a) (others_ascend y ys b) rest)
  where
    first : x ≡ y
    first = elim ((same x).0 (inl refl)) [
      | inl e ↦ e
      | inr i ↦ elim ((same y).1 (inl refl)) [ inl e ↦ sym e | inr j ↦ absurd (below_one_way x y (first_below x xs a y j) (first_below y ys b x i)) ]
    ]

    rest : (v : Text) → Among xs v ↔ Among ys v
    rest v = (
      λ i. elim ((same v).0 (inr i)) [ inl e ↦ (let c : Below x x = first_below x xs a x (subst (Among xs) (e ∙ sym first) i) in absurd (below_one_way x x c c)) | inr j ↦ j ],
      λ j. elim ((same v).1 (inr j)) [ inl e ↦ (let c : Below y y = first_below y ys b y (subst (Among ys) (e ∙ first) j) in absurd (below_one_way y y c c)) | inr i ↦ i ],
    )

-- two resolutions that hold the same
pub record Alike (m n : Resolution) : Type 0 where
  pub names : (f x : Text) → m.table.names f x ≡ n.table.names f x
  pub enabled_by : (f e : Text) → m.enabled_by f e ≡ n.enabled_by f e

alike_without : (r : Text) (m n : Resolution) → Alike m n → Alike (without_one r m) (without_one r n)
alike_without r m n h = grind (arith, common_steps)

-- they pass on the same, where own lists agree on the features of a set
module _ (T : Text → Type 0) where
  pub passed_all_alike : (rs : List Text) (m n : Resolution) (own own' : Text → List Text) → Alike m n → ((v : Text) → Among rs v → T v) → ((v : Text) → T v → own v ≡ own' v) →
      (f : Text) → T f → pass_all rs m own f ≡ pass_all rs n own' f
  passed_all_alike [] m n own own' h inside same f k = same f k
  passed_all_alike (r ∷ rs) m n own own' h inside same f k = search (rules, alike_without, passed_all_alike rs (without_one r m) (without_one r n) (pass_bins m r own) (pass_bins n r own') (alike_without r m n h) (λ v i. inside v (inr i)))

pub alike_itself : (m : Resolution) → Alike m m
alike_itself m = record { names = λ f x. refl; enabled_by = λ f e. refl }

-- what is removed is there
pub removed_there : (t : Table) (keep : Text → Bool) (f : Text) → IsTrue (is_removed t keep f) → IsTrue (t.has f)
removed_there t keep f = search (rules, false≢true)

-- the last of a list passes on what the others have left it
pub last_passes : (xs : List Text) (r : Text) (m : Resolution) (bins : Text → List Text) (f : Text) → pass_all (xs ++ r ∷ []) m bins f ≡ pass_bins (without_all xs m) r (pass_all xs m bins) f
last_passes [] r m bins f = refl
last_passes (x ∷ xs) r m bins f = last_passes xs r (without_one x m) (pass_bins m x bins) f

module _ (t : Table) (R : Text → Type 0) (own : Text → List Text) where
  -- what is passed on is one function of the table, what is removed and what binaries mention
  pub passed_once : (a b : Text → List Text) → ArePassedOn t R own a → ArePassedOn t R own b → (f : Text) → IsKept t R f → a f ≡ b f
  passed_once a b p q f k = search (rules, one_order)

  module _ (there : (v : Text) → R v → IsTrue (t.has v)) (bins : Text → List Text) (p : ArePassedOn t R own bins) (f : Text) (k : IsKept t R f) where
    into : (v : Text) → Among p.order v → R v
    into v i = (p.in_order.members v).0 i

    back : (v : Text) → R v → Among p.order v
    back v r = (p.in_order.members v).1 r

    there_all : (v : Text) → Among p.order v → IsTrue (t.has v)
    there_all v i = there v (into v i)

    kept : IsKept t (Among p.order) f
    kept = (k.0, λ i. k.1 (into f i))

    pub passed_has : HasBins t R own f (bins f)
    passed_has =
        let b = bins_are t own p.order (unremoved t) (unremoved_is t) there_all (ascending_once p.order p.in_order.ascending) f kept in
        subst (HasBins t R own f) (sym (p.lists f k)) (record {
          lists = grown_weaker (λ x c. passed_alike t own (Among p.order) R into f x c) b.lists;
          direct = λ r x i n j. b.direct r x (back r i) n j;
        })

    pub passed_complete : mentions own p.order ≤ 10 → IsComplete t R own f (bins f)
    passed_complete ten r x i path j =
        subst (λ xs. Among xs x) (sym (p.lists f k))
        (bins_complete t own p.order (unremoved t) (unremoved_is t) there_all (ascending_once p.order p.in_order.ascending) ten f kept r x (back r i) (reaches_within R (Among p.order) back path) j)
