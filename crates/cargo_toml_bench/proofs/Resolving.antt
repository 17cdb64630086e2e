-- From an answer with nothing removed, and what taking hidden features out leaves of it, to the answer without them.
use Rattle.cargo_toml_bench.proofs.Cited.{Among, AreNames, ArePassedOn, AreTakenOut, Ascend, BTreeSet, Bool, Bor, Entry, Features, HasNames, HashMap, HaveRedirects, IfSome, IsAnswer, IsOnce, IsPassed, IsSome, IsSomeAnd, IsTrue, List, Listed, NamedDetails, None, Option, Redirected, RedirectsTo, Resolution, SameKept, Some, [], all_taken_out, among-true, and_assoc, and_parts, answer_alike, ap, append-nil, arith, ascending_once, bins_at, cases_Bool, codes, eqb-true, false_from_ne_true, false≢true, filter, inl, inr}
use Rattle.cargo_toml_bench.proofs.Cited.{is_among-true, is_below, is_hidden, is_some, key_at, length, lists_text, nat_eq, not, not_from_false, option_map, passed_has, redirect_by_bytes, refl, removed_there, resolution_settled, resolved_same, resolved_unremoved, set_has, starts_with, subst, sym, table_of, texts_now, those_among, those_ascend, true, unremoved, unremoved_is, without_all, without_one, ◌&&◌, ◌++◌, ◌==◌, ◌↔◌, ◌∙◌, ◌∷◌, ◌≡◌}
use Rattle.cargo_toml_bench.proofs.Unreferenced.{nothing_removed}
use Rattle.cargo_toml_features.specs.declared.features.Feature.{Feature}
use Rattle.cargo_toml_graph.specs.Action.{Text}
use Rattle.cargo_toml_graph.specs.Graph.{IsResolved}
use Rattle.cargo_toml_graph.specs.Graph.{Table}
use Rattle.cargo_toml_graph.specs.Removal.{is_removed}
use Rattle.cargo_toml_features.specs.Views.{answer_of}
use Rattle.cargo_toml_features.specs.Views.{resolution_of}
use Rattle.cargo_toml_features.specs.Views.{value_at}

abbrev Below : Text → Text → Type 0
Below a b = IsTrue (is_below a b)

-- some text stands in a list that is not empty
pub some_is : (b : Bool) (xs : List (Bor Text)) → b ≡ (length xs == 0) → IsTrue (not b) ↔ ((r : Text) × Among (texts_now xs) r)
some_is b [] e = (λ y. absurd (false≢true (sym (ap not e) ∙ y)), λ s. absurd s.1)
some_is b (x ∷ xs) e = (λ y. (x.now, inl refl), λ s. not_from_false b (false_from_ne_true b (λ t. long (eqb-true _ _ (sym e ∙ t)))))
  where
    long : length (x ∷ xs) ≡ 0 → ⊥
    long none = omega arith

-- where a text stands in a list, and what is put aside of it
record Stands {S : Type 0} (m : Resolution) (hidden : Redirected S) (xs : List Text) (x : Text) : Type 0 where
  before : List Text
  after : List Text
  whole : xs ≡ before ++ x ∷ after
  names : HasNames hidden x ((without_all before m).table.names x)

stands : {S : Type 0} (m : Resolution) (hidden : Redirected S) (xs : List Text) (x : Text) → HaveRedirects xs m hidden → Among xs x → Stands m hidden xs x
stands m hidden [] x h i = absurd i
stands m hidden (y ∷ ys) x h (inl e) = record { before = []; after = ys; whole = ap (λ z. z ∷ ys) (sym e); names = subst (λ z. HasNames hidden z (m.table.names z)) (sym e) h.0 }
stands m hidden (y ∷ ys) x h (inr i) = let s = stands (without_one y m) hidden ys x h.1 i in record { before = y ∷ s.before; after = s.after; whole = ap (λ zs. y ∷ zs) s.whole; names = s.names }

module _ {S H : Type 0} (listed : Listed) (entries : List Entry) (details : NamedDetails) (own : Text → List Text) (old : Features S H)
    (whole : IsAnswer listed entries details own (λ _. true) (answer_of old)) where
  abbrev t : Table
  t = table_of listed entries

  -- with nothing removed, the answer is the table, and has the binaries' own mentions
  start : SameKept (unremoved t) (resolution_of old.features)
  start = resolution_settled t (λ f. IsTrue (is_removed t (λ _. true) f)) (unremoved t) (resolution_of old.features)
      (resolved_unremoved t (unremoved t) _ (nothing_removed t) (unremoved_is t)) whole.kept.resolved

  own_bins : (f : Text) → IsSome (value_at old.features f) → bins_at old.features f ≡ own f
  own_bins f there = let g = (whole.bins f there).lists in g.whole ∙ ap (λ xs. own f ++ xs) (go g.passed g.cause) ∙ append-nil (own f)
    where
      go : (xs : List Text) → ((x : Text) → Among xs x → IsPassed t (λ r. IsTrue (is_removed t (λ _. true) r)) own f x) → xs ≡ []
      go [] cause = refl
      go (x ∷ xs) cause = let c = cause x (inl refl) in absurd (nothing_removed t c.0 c.1)

  -- the names that are hidden, of all names in order
  module _ (keep : Text → Bool) (names rs : List Text) (all : (f : Text) → lists_text names f ≡ is_some (value_at old.features f)) (up : Ascend names) (are : rs ≡ filter (is_hidden keep) names) where
    removed : (f : Text) → Among rs f ↔ IsTrue (is_removed t keep f)
    removed f =
        let by = those_among (is_hidden keep) names rs are f in
        let same = and_assoc (t.has f) (starts_with nat_eq f (codes "_")) (not (keep f)) in (
          λ i.
              let p = by.0 i in
              same ∙ ap (λ b. b && is_hidden keep f) (start.has f ∙ sym (all f) ∙ among-true names f p.0) ∙ p.1,
          λ y.
              let p = and_parts (t.has f) (is_hidden keep f) (sym same ∙ y) in
              by.1 (is_among-true names f (all f ∙ sym (start.has f) ∙ p.0), p.1),
        )

    there : (f : Text) → Among rs f → IsTrue (t.has f)
    there f i = removed_there t keep f ((removed f).0 i)

    ascending : Ascend rs
    ascending = those_ascend (is_hidden keep) names rs are up

    module _ (features : HashMap (Bor Text) Feature S) (before hidden : Redirected S) (none : (r : Text) → value_at before r ≡ None) (b : Bool) (some : IsTrue b ↔ ((r : Text) × Among rs r))
        (law : (m : Resolution) (own : Text → List Text) → SameKept m (resolution_of old.features) → ((f : Text) → IsSome (value_at old.features f) → bins_at old.features f ≡ own f)
        → ((v : Text) → Among rs v → IsSome (value_at old.features v)) → IsOnce rs → AreNames old.features names → AreTakenOut m own rs old.features features before hidden) where
      taken : AreTakenOut (unremoved t) own rs old.features features before hidden
      taken = law (unremoved t) own start own_bins (λ v i. sym (start.has v) ∙ there v i) (ascending_once rs ascending)
          (record { all = λ f y. is_among-true names f (all f ∙ y); once = ascending_once names up })

      resolved : IsResolved t (Among rs) (resolution_of features)
      resolved = resolved_same t (Among rs) (without_all rs (unremoved t)) (resolution_of features) taken.left (all_taken_out t rs (unremoved t) (unremoved_is t) there (ascending_once rs ascending))

      keyed_at : (f : Text) → IfSome (option_map (λ (v : Feature). v.key.now) (value_at features f)) (λ k. k ≡ f)
      keyed_at f = kept_key (value_at features f) (λ h. (taken.stays f h).1) (whole.kept.keyed f)
        where
          kept_key : (o : Option Feature) → (IsSome o → option_map (λ (v : Feature). v.key.now) o ≡ key_at old.features f) → IfSome (key_at old.features f) (λ k. k ≡ f)
              → IfSome (option_map (λ (v : Feature). v.key.now) o) (λ k. k ≡ f)
          kept_key None e h = tt
          kept_key (Some v) e h = subst (λ p. IfSome p (λ k. k ≡ f)) (sym (e refl)) h

      passed_on : ArePassedOn t (Among rs) own (λ f. bins_at features f)
      passed_on = record {
        order = rs;
        in_order = record { ascending = ascending; members = λ r. (λ i. i, λ i. i) };
        lists = λ f k. taken.bins f ((resolved.kept f).1 k);
      }

      -- what stands for a text that may be removed
      abbrev At : Text → Option (BTreeSet (Bor Text)) → Type 0
      At r o = (IsSome (option_map set_has o) ↔ Among rs r) × IfSome (option_map set_has o) (λ names. (x : Text) → IsTrue (names x) ↔ RedirectsTo t (Among rs) Below r x)

      at : (r : Text) → At r (value_at hidden r)
      at r = elim (cases_Bool (lists_text rs r)) [
        | inl y ↦ let i = is_among-true rs r y in let s = stands (unremoved t) hidden rs r taken.redirects i in go (value_at hidden r) i s s.names
        | inr n ↦
            let out : ¬ Among rs r = λ i. false≢true (sym n ∙ among-true rs r i) in
            subst (At r) (sym (taken.others r out ∙ none r)) ((λ y. absurd (false≢true y), λ i. absurd (out i)), tt)
      ]
        where
          go : (o : Option (BTreeSet (Bor Text))) → Among rs r → (s : Stands (unremoved t) hidden rs r) → IsSomeAnd o (λ names. (x : Text) → set_has names x ≡ (without_all s.before (unremoved t)).table.names r x) → At r o
          go None i s h = absurd h
          go (Some names) i s h = (
            (λ y. i, λ i. refl),
            λ x. subst (λ b. IsTrue b ↔ RedirectsTo t (Among rs) Below r x) (sym (h x))
                (subst (λ xs. IsTrue ((without_all s.before (unremoved t)).table.names r x) ↔ RedirectsTo t (Among xs) Below r x) (sym s.whole)
                (redirect_by_bytes t s.before r s.after (unremoved t) (unremoved_is t) (λ v i. there v (subst (λ xs. Among xs v) (sym s.whole) i)) (subst Ascend s.whole ascending) x)),
          )

      pub answers : IsAnswer listed entries details own keep (answer_of (record old { features = features; removed_hidden_features = b; hidden_features = hidden }))
      answers = answer_alike listed entries details own (Among rs) (λ r. IsTrue (is_removed t keep r)) _ (λ r. (removed r).0) (λ r. (removed r).1) (record {
        kept = record {
          resolved = resolved;
          keyed = keyed_at;
          marks = λ f h. (taken.stays f h).2 ∙ whole.kept.marks f (sym (start.has f) ∙ ((resolved.kept f).0 h).0);
          dependencies = whole.kept.dependencies;
          some = some;
        };
        bins = λ f h. passed_has t (Among rs) own there (λ f. bins_at features f) passed_on f ((resolved.kept f).0 h);
        passed_on = passed_on;
        redirected = λ r. (at r).0;
        redirects = λ r. (at r).1;
      })
