-- One feature is taken out of a map.
use Rattle.cargo_toml_bench.proofs.Cited.{Among, AreTakenOut, BTreeSet, Bor, ChangesAll, ChangesAt, HasNames, HashMap, IsSome, IsTrue, List, Loses, None, Option, Redirected, Redirects, Relates, Resolution, SameKept, Some, TakesOut, [], among-true, and-false, and-true, and_parts, ap, arith, at_key, bins_at, bytes_eq}
use Rattle.cargo_toml_bench.proofs.Cited.{bytes_eq-Decides, bytes_eq_sym, cases_Bool, elsewhere, false, false_from_ne_true, false≢true, is_among-true, is_some, lists_text, not, not-true, pass_bins, refl, subst, sym, without_one, ◌&&◌, ◌∙◌, ◌∷◌, ◌≡◌}
use Rattle.cargo_toml_graph.specs.Action.{Text}
use Rattle.cargo_toml_features.specs.declared.features.Feature.{Feature}
use Rattle.cargo_toml_features.specs.Views.{resolution_of}
use Rattle.cargo_toml_features.specs.Views.{value_at}
use Rattle.std.specs.HashMap as hash

pub changed_at : {S : Type 0} (Changes : Feature → Feature → Type 0) (k : Text) (m n : HashMap (Bor Text) Feature S) (old w : Feature)
    → value_at m k ≡ Some old → (IsSome (hash.get_by (λ q. bytes_eq k q.now) m) → hash.UpdatesBy (λ x y. bytes_eq x.now y.now) (λ q. bytes_eq k q.now) m n (Some w)) → Changes old w → ChangesAt Changes k m n
changed_at Changes k m n old w was h c =
    let u = h (ap is_some was) in
    record {
      here = subst (λ b. Relates Changes (value_at m k) b) (sym (at_key k m n (Some w) u)) (subst (λ a. Relates Changes a (Some w)) (sym was) c);
      others = elsewhere k m n (Some w) u;
    }

module _ {S : Type 0} (Changes : Text → Feature → Feature → Type 0) where
  pub nothing_changes : (m : HashMap (Bor Text) Feature S) → ChangesAll Changes [] m m
  nothing_changes m = record { here = λ q i. absurd i; others = λ q n. refl }

  -- k has its turn first
  pub turn : (k : Text) (ks : List Text) (old mid new : HashMap (Bor Text) Feature S) → ¬ Among ks k → ChangesAt (Changes k) k old mid → ChangesAll Changes ks mid new → ChangesAll Changes (k ∷ ks) old new
  turn k ks old mid new fresh c h = grind (arith, false_from_ne_true, bytes_eq-Decides)

module _ {S : Type 0} (key : Text) (names : List Text) (old mid new : HashMap (Bor Text) Feature S) (all : (f : Text) → IsSome (value_at old f) → Among names f) (gone : Feature) (was : value_at old key ≡ Some gone)
    (u : hash.UpdatesBy (λ x y. bytes_eq x.now y.now) (λ q. bytes_eq key q.now) old mid None) (changes : ChangesAll (Loses gone key) names mid new) where
  -- a name that is still there was there
  still_there : (f : Text) → IsSome (value_at mid f) → Among names f
  still_there f there = grind (arith, all f, at_key key old mid None u, bytes_eq-Decides key f, elsewhere)

  -- each has had its turn
  h : (q : Text) → Relates (Loses gone key q) (value_at mid q) (value_at new q)
  h q = grind (arith, still_there, cases_Bool (lists_text names q), is_among-true, among-true)

  has_now : (f : Text) → (is_some (value_at old f) && not (bytes_eq f key)) ≡ is_some (value_at new f)
  has_now f = grind (arith, h, and-false, bytes_eq-Decides, at_key, and-true, elsewhere, bytes_eq_sym)

  -- one that stays, before and now
  record Both (f : Text) : Type 0 where
    before : Feature
    now : Feature
    at_old : value_at old f ≡ Some before
    at_new : value_at new f ≡ Some now
    loses : Loses gone key f before now

  both : (f : Text) → IsTrue (is_some (value_at old f) && not (bytes_eq f key)) → Both f
  both f stays =
      let p = and_parts (is_some (value_at old f)) (not (bytes_eq f key)) stays in
      let same = elsewhere key old mid None u f (bytes_eq_sym key f ∙ not-true _ p.1) in
      go (value_at old f) (value_at new f) refl refl (subst (λ o. Relates (Loses gone key f) o (value_at new f)) same (h f)) p.0
    where
      go : (o o' : Option Feature) → value_at old f ≡ o → value_at new f ≡ o' → Relates (Loses gone key f) o o' → IsTrue (is_some o) → Both f
      go None o' e e' l y = absurd (false≢true y)
      go (Some a) None e e' l y = absurd l
      go (Some a) (Some b) e e' l y = record { before = a; now = b; at_old = e; at_new = e'; loses = l }

  pub taken_out : TakesOut key old new
  taken_out = record {
    left = record {
      has = has_now;
      names = λ f x stays. let b = both f stays in simp (was, b.at_old, b.at_new) (sym (b.loses.names x));
      action = λ f k stays. let b = both f stays in simp (was, b.at_old, b.at_new) (sym (b.loses.actions k));
      enabled_by = λ f e stays. let b = both f stays in simp (was, b.at_old, b.at_new) (sym (b.loses.enabled_by e));
    };
    keys = λ f there. let b = both f (has_now f ∙ there) in simp (b.at_old, b.at_new) (ap (λ k. Some k.now) b.loses.own_key);
    marks = λ f there. let b = both f (has_now f ∙ there) in simp (b.at_old, b.at_new) b.loses.marks;
    bins = λ f there. let b = both f (has_now f ∙ there) in simp (was, b.at_old, b.at_new) b.loses.bins;
  }

  pub redirected : (names : BTreeSet (Bor Text)) → names ≡ gone.enables_features → (hidden hidden' : Redirected S)
      → hash.UpdatesBy (λ x y. bytes_eq x.now y.now) (λ q. bytes_eq key q.now) hidden hidden' (Some names) → Redirects key (resolution_of old) hidden hidden'
  redirected names same hidden hidden' w = grind (arith, at_key, was, elsewhere)

same_then : (l m n : Resolution) → SameKept l m → SameKept m n → SameKept l n
same_then l m n h k = grind arith

same_without : (r : Text) (m n : Resolution) → IsTrue (m.table.has r) → SameKept m n → SameKept (without_one r m) (without_one r n)
same_without r m n kr h = grind (arith, and_parts)

module _ {S : Type 0} (m : Resolution) (own : Text → List Text) (old : HashMap (Bor Text) Feature S) (start : SameKept m (resolution_of old)) (bins : (f : Text) → IsSome (value_at old f) → bins_at old f ≡ own f) where
  -- nothing is taken out
  pub none_out : (hidden : Redirected S) → AreTakenOut m own [] old old hidden hidden
  none_out hidden = record { left = start; stays = λ f there. (there, refl, refl); bins = bins; redirects = tt; others = λ q n. refl }

  -- r is taken out first
  module _ (r : Text) (here : IsTrue (m.table.has r)) (mid : HashMap (Bor Text) Feature S) (t : TakesOut r old mid) where
    was : (f : Text) → IsSome (value_at mid f) → IsSome (value_at old f)
    was f there = (and_parts (is_some (value_at old f)) _ (t.left.has f ∙ there)).0

    pub start_then : SameKept (without_one r m) (resolution_of mid)
    start_then = same_then (without_one r m) (without_one r (resolution_of old)) (resolution_of mid) (same_without r m (resolution_of old) here start) t.left

    pub bins_then : (f : Text) → IsSome (value_at mid f) → bins_at mid f ≡ pass_bins m r own f
    bins_then f there = grind (arith, was f there)

    module _ (rest : List Text) (fresh : ¬ Among rest r) (new : HashMap (Bor Text) Feature S) (hidden hidden' hidden'' : Redirected S) (d : Redirects r (resolution_of old) hidden hidden')
        (h : AreTakenOut (without_one r m) (pass_bins m r own) rest mid new hidden' hidden'') where
      own_redirect : HasNames hidden'' r (m.table.names r)
      own_redirect = grind arith

      pub first_out : AreTakenOut m own (r ∷ rest) old new hidden hidden''
      first_out = grind (arith, was, own_redirect, false_from_ne_true, bytes_eq-Decides)
