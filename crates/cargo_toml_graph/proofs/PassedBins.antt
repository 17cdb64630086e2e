-- What removed features pass on.
use Rattle.std.proofs.Common.{◌≡◌, ◌≤◌, Bool, true, false, IsTrue, cond, List, [], ◌∷◌, take, length, refl, sym, subst, inl, inr, ◌∙◌, take_all, le_trans, append-nil, arith, rules}
use Rattle.std.proofs.lemmas.{Bool.false≢true, Grind.common_steps}
use Rattle.cargo_toml_graph.specs.{Action.Text, Reach.With, Reach.Among, Reach.IsOnce, Reach.Reaches, Reach.Gathers, Reach.GathersLabel, Reach.Reaches.edge, Reach.Reaches.through, Graph.Table}
use Rattle.cargo_toml_graph.specs.{Graph.Edge, Graph.Resolution, Graph.IsKept, Graph.IsResolved, Graph.IsUnremoved, Removal.without_one, Removal.put_each, Removal.pass_bins, Removal.pass_all}
use Rattle.cargo_toml_graph.specs.Bins.{mentions, Grown, IsPassed, HasBins, IsComplete}
use Rattle.cargo_toml_graph.proofs.{Split.split, Split.label_split, Unremoved.resolved_unremoved, Members.label_within, Members.reaches_within, Elimination.After, Elimination.after-among}
use Rattle.cargo_toml_graph.proofs.{Texts.decided_text, BinLists.among-first, BinLists.among-either, BinLists.among-take, BinLists.among-taken, BinLists.put_keeps, BinLists.put_puts}
use Rattle.cargo_toml_graph.proofs.BinLists.{put_grows, few}
use Rattle.cargo_toml_graph.proofs.OneRemoval as removal

abbrev Names : Table → Text → Text → Type 0
Names t b y = IsTrue (t.names b y)

pub grown_weaker : {own : List Text} {P Q : Text → Type 0} {bins : List Text} → ((x : Text) → P x → Q x) → Grown own P bins → Grown own Q bins
grown_weaker w g = record { passed = g.passed; whole = g.whole; once = g.once; fresh = g.fresh; cause = λ x i. w x (g.cause x i) }

-- naming alone through S is some gathered feature's naming
naming_gathers : (t : Table) (S : Text → Type 0) → ((v : Text) → S v → IsTrue (t.has v)) → {r f : Text} → IsTrue (t.has r) → Reaches (Names t) S r f → GathersLabel (Edge t) S (Names t) r f
naming_gathers t S inside {r} there (edge n) = (r, inl refl, n)
naming_gathers t S inside there (through {a = r} {b} {c = f} n s p) =
    let next : GathersLabel (Edge t) S (Names t) b f = naming_gathers t S inside (inside b s) p in
    elim (decided_text r b) [
      | inl same ↦ subst (λ v. GathersLabel (Edge t) S (Names t) v f) (sym same) next
      | inr ne ↦
          let first : Edge t r b = record { source = there; target = inside b s; apart = ne; leads = inl n } in
          (next.0, elim (next.1) [ inl i ↦ inr (subst S (sym i) s, subst (λ v. Reaches (Edge t) S r v) (sym i) (edge first)) | inr g ↦ inr (g.0, through first s g.1) ], next.2)
    ]

module _ (t : Table) (own : Text → List Text) (S : Text → Type 0) (inside : (v : Text) → S v → IsTrue (t.has v)) (m : Resolution) (h : IsResolved t S m)
    (r : Text) (there : IsTrue (t.has r)) (new : ¬ S r) (bins : Text → List Text) where
  older : (f : Text) → IsKept t (With S r) f → IsKept t S f
  older f k = (k.0, λ s. k.1 (inl s))

  wider : (f x : Text) → IsPassed t S own f x → IsPassed t (With S r) own f x
  wider f x p = (p.0, inl p.1, p.2, (label_split (Edge t) S r (Names t) p.0 f).1 (inl p.3))

  module _ (hb : (f : Text) → IsKept t S f → HasBins t S own f (bins f)) where
    -- each of r's binaries has a cause on each feature that r names
    causes : (f : Text) → GathersLabel (Edge t) S (Names t) r f → (x : Text) → Among (take 10 (bins r)) x → IsPassed t (With S r) own f x
    causes f l x i =
        let g = (hb r (there, new)).lists in
        elim (among-either (own r) g.passed x (subst (λ xs. Among xs x) g.whole (among-taken 10 (bins r) x i))) [
          | inl o ↦ (r, inr refl, o, (label_split (Edge t) S r (Names t) r f).1 (inl l))
          | inr p ↦
              let c = g.cause x p in (
                c.0,
                inl c.1,
                c.2,
                (label_split (Edge t) S r (Names t) c.0 f).1 (inr (reaches c.0 c.1 c.3, l)),
              )
        ]
      where
        reaches : (s : Text) → S s → GathersLabel (Edge t) S (Names t) s r → Reaches (Edge t) S s r
        reaches s i l = go l.0 l.1 l.2
          where
            go : (b : Text) → Gathers (Edge t) S s b → Names t b r → Reaches (Edge t) S s r
            go b (inl e) n = edge (record { source = inside s i; target = there; apart = λ e. new (subst S e i); leads = inl (subst (λ v. Names t v r) e n) })
            go b (inr g) n = removal.further g.1 g.0 (record { source = removal.target g.1; target = there; apart = λ e. new (subst S e g.0); leads = inl n })

    bins_step : (f : Text) → IsKept t (With S r) f → HasBins t (With S r) own f (pass_bins m r bins f)
    bins_step f k' = go (m.table.names r f) refl
      where
        k : IsKept t S f
        k = older f k'

        grown : Grown (own f) (IsPassed t (With S r) own f) (bins f)
        grown = grown_weaker (λ x p. wider f x p) (hb f k).lists

        go : (b : Bool) → m.table.names r f ≡ b → HasBins t (With S r) own f (cond b (put_each (bins f) (take 10 (bins r))) (bins f))
        go true e =
            let l = ((h.names r f (there, new)).0 e).0 in
            record {
              lists = put_grows (own f) _ (bins f) (take 10 (bins r)) grown (causes f l);
              direct = λ s x i n j. elim i [
                | inl i ↦ put_keeps (bins f) (take 10 (bins r)) x ((hb f k).direct s x i n j)
                | inr same ↦ put_puts (bins f) (take 10 (bins r)) x
                    (let g = (hb r (there, new)).lists in
                    subst (λ xs. Among (take 10 xs) x) (sym g.whole) (among-take 10 (own r) g.passed x (subst (λ v. Among (take 10 (own v)) x) same j)))
              ];
            }
        go false e = record {
          lists = grown;
          direct = λ s x i n j. elim i [
            | inl i ↦ (hb f k).direct s x i n j
            | inr same ↦ absurd (false≢true (sym e ∙ (h.names r f (there, new)).1 ((r, inl refl, subst (λ v. Names t v f) same n), λ s. k.1 s)))
          ];
        }

    -- the step of complete bins: all of r's binaries are passed on
    complete_step : length (bins r) ≤ 10 → ((f : Text) → IsKept t S f → IsComplete t S own f (bins f)) → (f : Text) → IsKept t (With S r) f → IsComplete t (With S r) own f (pass_bins m r bins f)
    complete_step small hc f k' s x i p j = grind (arith, common_steps, split, older, put_keeps, naming_gathers, put_puts, take_all, among-first)

-- all of them, one after another
module _ (t : Table) (own : Text → List Text) (all : List Text) where
  pub bins_all : (rs : List Text) (S : Text → Type 0) → ((v : Text) → S v → IsTrue (t.has v)) → ((v : Text) → Among rs v → IsTrue (t.has v) × ¬ S v) → IsOnce rs
      → (m : Resolution) → IsResolved t S m → (bins : Text → List Text) → ((f : Text) → IsKept t S f → HasBins t S own f (bins f))
      → (f : Text) → IsKept t (After S rs) f → HasBins t (After S rs) own f (pass_all rs m bins f)
  bins_all [] S inside there once m h bins hb f k = hb f k
  bins_all (r ∷ rs) S inside there once m h bins hb f k =
      let at = there r (inl refl) in
      bins_all rs (With S r)
      (λ v. elim [ inl s ↦ inside v s | inr e ↦ subst (λ w. IsTrue (t.has w)) (sym e) at.0 ])
      (λ v i. ((there v (inr i)).0, elim [ inl s ↦ (there v (inr i)).1 s | inr e ↦ once.0 (subst (Among rs) e i) ]))
      once.1 (without_one r m) (removal.step t S m h r at.0 at.1) (pass_bins m r bins)
      (bins_step t own S inside m h r at.0 at.1 bins hb) f k

  pub complete_all : mentions own all ≤ 10 → (rs : List Text) (S : Text → Type 0) → ((v : Text) → S v → Among all v) → ((v : Text) → Among rs v → Among all v) → ((v : Text) → S v → IsTrue (t.has v)) → ((v : Text) → Among rs v → IsTrue (t.has v) × ¬ S v) → IsOnce rs
      → (m : Resolution) → IsResolved t S m → (bins : Text → List Text) → ((f : Text) → IsKept t S f → HasBins t S own f (bins f)) → ((f : Text) → IsKept t S f → IsComplete t S own f (bins f))
      → (f : Text) → IsKept t (After S rs) f → IsComplete t (After S rs) own f (pass_all rs m bins f)
  complete_all ten [] S known known' inside there once m h bins hb hc f k = hc f k
  complete_all ten (r ∷ rs) S known known' inside there once m h bins hb hc f k =
      let at = there r (inl refl) in
      let small : length (bins r) ≤ 10 = le_trans (few own r all (bins r) (known' r (inl refl)) (grown_weaker (λ x p. (p.0, known p.0 p.1, p.2)) (hb r at).lists)) ten in
      complete_all ten rs (With S r)
      (λ v. elim [ inl s ↦ known v s | inr e ↦ subst (Among all) (sym e) (known' r (inl refl)) ])
      (λ v i. known' v (inr i))
      (λ v. elim [ inl s ↦ inside v s | inr e ↦ subst (λ w. IsTrue (t.has w)) (sym e) at.0 ])
      (λ v i. ((there v (inr i)).0, elim [ inl s ↦ (there v (inr i)).1 s | inr e ↦ once.0 (subst (Among rs) e i) ]))
      once.1 (without_one r m) (removal.step t S m h r at.0 at.1) (pass_bins m r bins)
      (bins_step t own S inside m h r at.0 at.1 bins hb)
      (complete_step t own S inside m h r at.0 at.1 bins hb small hc) f k

-- sets with the same members
pub passed_alike : (t : Table) (own : Text → List Text) (S S' : Text → Type 0) → ((v : Text) → S v → S' v) → (f x : Text) → IsPassed t S own f x → IsPassed t S' own f x
passed_alike t own S S' into f x p = (p.0, into p.0 p.1, p.2, label_within (Names t) S S' into p.0 f p.3)

-- nothing is passed on before anything is removed
at_first : (t : Table) (own : Text → List Text) (f : Text) → HasBins t (λ _. ⊥) own f (own f)
at_first t own f = search (rules, append-nil)

module _ (t : Table) (own : Text → List Text) (rs : List Text) (m : Resolution) (start : IsUnremoved t m) (there : (v : Text) → Among rs v → IsTrue (t.has v)) (once : IsOnce rs) where
  into : (v : Text) → After (λ _. ⊥) rs v → Among rs v
  into v a = elim ((after-among rs (λ _. ⊥) v).0 a) [ inl s ↦ absurd s | inr i ↦ i ]

  back : (v : Text) → Among rs v → After (λ _. ⊥) rs v
  back v i = (after-among rs (λ _. ⊥) v).1 (inr i)

  pub bins_are : (f : Text) → IsKept t (Among rs) f → HasBins t (Among rs) own f (pass_all rs m own f)
  bins_are f k =
      let b = bins_all t own rs rs (λ _. ⊥) (λ v s. absurd s) (λ v i. (there v i, λ s. s)) once m (resolved_unremoved t m (λ _. ⊥) (λ _ s. s) start) own (λ f _. at_first t own f) f (k.0, λ a. k.1 (into f a)) in
      record {
        lists = grown_weaker (λ x p. passed_alike t own _ (Among rs) into f x p) b.lists;
        direct = λ r x i n j. b.direct r x (back r i) n j;
      }

  pub bins_complete : mentions own rs ≤ 10 → (f : Text) → IsKept t (Among rs) f → IsComplete t (Among rs) own f (pass_all rs m own f)
  bins_complete ten f k = λ r x i p j.
      complete_all t own rs ten rs (λ _. ⊥) (λ v s. absurd s) (λ v i. i) (λ v s. absurd s) (λ v i. (there v i, λ s. s)) once m (resolved_unremoved t m (λ _. ⊥) (λ _ s. s) start) own (λ f _. at_first t own f) (λ f _ r x i p j. absurd i)
      f (k.0, λ a. k.1 (into f a)) r x (back r i) (reaches_within _ _ back p) j
