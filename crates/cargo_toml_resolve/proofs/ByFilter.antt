-- Features that the filter refuses, by their flags, and answers without them.
use Rattle.cargo_toml_resolve.proofs.Cited.{Answer, Answers, AreInOrder, AreKept, AreKeptBy, AreTable, Asked, BTreeSet, Bool, Bor, Entry, Feature, FilterTells, HasNameFilter, HashMap, IfSome, IsAnswer, IsAnswerBy, IsAnswerWithout, IsFlagOf, IsFlagged, IsHiddenName, IsKept, IsRemovedBy, IsTrue, IsWanted, List, Listed, NamedDetails, None, Option, RedirectsTo, Some, Table, Text, [], and_from, and_parts, arith, bytes_eq, bytes_eq-Decides, codes}
use Rattle.cargo_toml_resolve.proofs.Cited.{details_listed, false, false≢true, grown_weaker, inl, inr, is_below, is_removed, is_some, label_within, length, names_of, nat_eq, not, nth_text, or_cases, or_left, or_right, passed_alike, refl, resolved_alike, slice_index_or, starts_with, suc, sym, table_among, table_of, told_by_listed, true, value_at, ℕ, ◌&&◌, ◌<◌, ◌||◌, ◌↔◌, ◌∙◌, ◌∷◌, ◌≡◌}
use Rattle.cargo_toml_resolve.proofs.InPlace.{has_place}

-- the flag of the feature of this name, by looking it up
abbrev pub flag_at : List Feature → List Bool → Text → Bool
flag_at [] flags f = false
flag_at (v ∷ vs) [] f = false
flag_at (v ∷ vs) (b ∷ flags) f = (bytes_eq f v.key.now && b) || flag_at vs flags f

pub flag_is : (vs : List Feature) (flags : List Bool) (f : Text) → IsTrue (flag_at vs flags f) ↔ IsFlagged vs flags f
flag_is [] flags f = (λ y. absurd (false≢true y), λ w. absurd (let lt = w.1 in omega (arith, lt)))
flag_is (v ∷ vs) [] f = (λ y. absurd (false≢true y), λ w. absurd (false≢true w.3))
flag_is (v ∷ vs) (b ∷ flags) f = (into (flag_is vs flags f), out (flag_is vs flags f))
  where
    into : IsTrue (flag_at vs flags f) ↔ IsFlagged vs flags f → IsTrue (flag_at (v ∷ vs) (b ∷ flags) f) → IsFlagged (v ∷ vs) (b ∷ flags) f
    into rest y = elim (or_cases _ _ y) [
      | inl h ↦ (let p = and_parts _ _ h in (0, omega arith, sym ((bytes_eq-Decides f v.key.now).0 p.0), p.1))
      | inr h ↦ (let w = rest.0 h in (suc w.0, (let lt = w.1 in omega (arith, lt)), w.2, w.3))
    ]

    at : IsTrue (flag_at vs flags f) ↔ IsFlagged vs flags f → (i : ℕ) → i < length (v ∷ vs) → nth_text (names_of (v ∷ vs)) i ≡ f → IsWanted (b ∷ flags) true i
        → IsTrue (flag_at (v ∷ vs) (b ∷ flags) f)
    at rest p lt same stands = grind (arith, or_left, and_from, bytes_eq-Decides, or_right)

    out : IsTrue (flag_at vs flags f) ↔ IsFlagged vs flags f → IsFlagged (v ∷ vs) (b ∷ flags) f → IsTrue (flag_at (v ∷ vs) (b ∷ flags) f)
    out rest w = at rest w.0 w.1 w.2 w.3

-- the features make their own table
pub own_table : (vs : List Feature) → AreTable (table_among vs) vs
own_table vs = record { has = λ f. refl; names = λ f x. refl; action = λ f k. refl }

module _ {F : Type 0} (g : Asked F) (filter : Option (Bor F)) where
  -- no name is kept and refused
  one_answer : HasNameFilter g filter → (n : Text) → Answers g filter n true → Answers g filter n false → ⊥
  one_answer has n = go filter has
    where
      go : (o : Option (Bor F)) → HasNameFilter g o → Answers g o n true → Answers g o n false → ⊥
      go None has keeps refuses = false≢true (sym keeps)
      go (Some f) has keeps refuses = false≢true ((has f refl).one_answer n false true refuses keeps)

  -- a test that agrees with the filter is what it answers
  told_as : (keep : Text → Bool) → FilterTells g filter keep → (n : Text) (b : Bool) → Answers g filter n b → b ≡ keep n
  told_as keep tells n b = grind arith

  -- the features whose flag stands are those that the filter refuses
  module _ (has : HasNameFilter g filter) (t : Table) (vs : List Feature) (same : AreTable t vs) (up : AreInOrder vs) (flags : List Bool)
      (are : (i : ℕ) → i < length vs → IsFlagOf g filter (nth_text (names_of vs) i) (slice_index_or flags i false)) where
    flag_of : (f : Text) → IsTrue (t.has f) → (i : ℕ) × (i < length vs) × (nth_text (names_of vs) i ≡ f) × IsFlagOf g filter f (slice_index_or flags i false)
    flag_of f known = grind (arith, has_place)

    pub removed_by : (f : Text) → IsFlagged vs flags f ↔ IsRemovedBy g filter t f
    removed_by f = grind (arith, has_place, flag_of, one_answer)

    -- and one that isn't refused is kept
    pub kept_by : (f : Text) → IsTrue (t.has f) → ¬ IsRemovedBy g filter t f → IsHiddenName f → Answers g filter f true
    kept_by f known stays hidden = grind (arith, flag_of f known)

    -- what is kept by each test that tells the flags is kept by the filter
    module _ {S : Type 0} (features : HashMap (Bor Text) Feature S) (hidden : HashMap (Bor Text) (BTreeSet (Bor Text)) S)
        (all : (removed : Text → Bool) → ((f : Text) → IsTrue (removed f) ↔ IsFlagged vs flags f) → AreKept t removed vs features hidden) where
      stands_hidden : (r : Text) → IsTrue (is_some (value_at hidden r)) ↔ IsFlagged vs flags r
      stands_hidden r =
          let same = (all (flag_at vs flags) (flag_is vs flags)).redirected r in
          let is = flag_is vs flags r in (λ y. is.0 (sym same ∙ y), λ w. same ∙ is.1 w)

      pub are_kept_by : AreKeptBy g filter t vs features hidden
      are_kept_by = record {
        removed = λ r. (λ y. (removed_by r).0 ((stands_hidden r).0 y), λ d. (stands_hidden r).1 ((removed_by r).1 d));
        kept = all (λ r. is_some (value_at hidden r)) stands_hidden;
        answered = kept_by;
      }

module _ (listed : Listed) (entries : List Entry) (details : NamedDetails) (own : Text → List Text) where
  abbrev t : Table
  t = table_of listed entries

  -- it is one answer, whichever fact tells of the removed ones
  module _ (R S : Text → Type 0) (a : Answer) (into : (r : Text) → R r → S r) (back : (r : Text) → S r → R r) (h : IsAnswerWithout listed entries details own R a) where
    old : (f : Text) → IsKept t S f → IsKept t R f
    old f k = (k.0, λ r. k.1 (into f r))

    redirects : (r : Text) → IfSome (a.redirects r) (λ names. (x : Text) → IsTrue (names x) ↔ RedirectsTo t S (λ s b. IsTrue (is_below s b)) r x)
    redirects r = go (a.redirects r) (h.redirects r)
      where
        across : (P Q : Text → Type 0) → ((v : Text) → P v → Q v) → ((v : Text) → Q v → P v) → (x : Text) → RedirectsTo t P (λ s b. IsTrue (is_below s b)) r x → RedirectsTo t Q (λ s b. IsTrue (is_below s b)) r x
        across P Q to from x n = (label_within (λ b z. IsTrue (t.names b z)) (λ s. P s × IsTrue (is_below s r)) (λ s. Q s × IsTrue (is_below s r)) (λ v p. (to v p.0, p.1)) r x n.0, λ p. n.1 (from x p.0, p.1))

        go : (o : Option (Text → Bool)) → IfSome o (λ names. (x : Text) → IsTrue (names x) ↔ RedirectsTo t R (λ s b. IsTrue (is_below s b)) r x)
            → IfSome o (λ names. (x : Text) → IsTrue (names x) ↔ RedirectsTo t S (λ s b. IsTrue (is_below s b)) r x)
        go None e = tt
        go (Some names) e = λ x. (λ y. across R S into back x ((e x).0 y), λ n. (e x).1 (across S R back into x n))

    pub answer_alike : IsAnswerWithout listed entries details own S a
    answer_alike = record {
      kept = grind (arith, resolved_alike);
      bins = λ f left.
          let b = h.bins f left in
          record { lists = grown_weaker (λ x c. passed_alike t own R S into f x c) b.lists; direct = λ r x gone n j. b.direct r x (back r gone) n j };
      passed_on = grind (arith, old);
      redirected = λ r. (λ y. into r ((h.redirected r).0 y), λ y. (h.redirected r).1 (back r y));
      redirects = redirects;
    }

  module _ {F : Type 0} (g : Asked F) (filter : Option (Bor F)) where
    abbrev R : Text → Type 0
    R = IsRemovedBy g filter t

    three : (h s k : Bool) → h ≡ true → s ≡ true → false ≡ k → (h && s && not k) ≡ true
    three p s k e e' e'' = grind arith

    parts : (h s k : Bool) → (h && s && not k) ≡ true → (h ≡ true) × (s ≡ true) × (k ≡ false)
    parts p s k e = grind arith

    -- each test that agrees with the filter tells the same as it
    pub tell_alike : (keep : Text → Bool) (a : Answer) → IsAnswerWithout listed entries details own R a
        → ((f : Text) → IsTrue (a.resolution.table.has f) → IsHiddenName f → Answers g filter f true)
        → FilterTells g filter keep → IsAnswer listed entries details own keep a
    tell_alike keep a h kept tells = answer_alike R (λ r. IsTrue (is_removed t keep r)) a into back h
      where
        into : (r : Text) → R r → IsTrue (is_removed t keep r)
        into r gone = three (t.has r) (starts_with nat_eq r (codes "_")) (keep r) gone.there gone.hidden (told_as g filter keep tells r false gone.refused)

        back : (r : Text) → IsTrue (is_removed t keep r) → R r
        back r y = grind (arith, parts, told_as)

    -- an answer without the refused features is the answer by the filter
    pub answer_by : (a : Answer) → IsAnswerWithout listed entries details own R a
        → ((f : Text) → IsTrue (a.resolution.table.has f) → IsHiddenName f → Answers g filter f true)
        → IsAnswerBy g filter listed entries details own a
    answer_by a h kept = record { answer = h; kept = kept; told = λ keep tells. tell_alike keep a h kept tells }

    -- and so by the details of what is listed
    pub answer_by_listed : (a : Answer) → IsAnswerBy g filter listed entries (details_listed listed details) own a → IsAnswerBy g filter listed entries details own a
    answer_by_listed a h = record {
      answer = told_by_listed listed entries details own R a h.answer;
      kept = h.kept;
      told = λ keep tells. told_by_listed listed entries details own (λ r. IsTrue (is_removed t keep r)) a (h.told keep tells);
    }
