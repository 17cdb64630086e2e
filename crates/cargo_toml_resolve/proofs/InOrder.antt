-- The texts of a set, as a list, lists that are gathered of sets, and sets of the texts of numbers.
use Rattle.cargo_toml_resolve.proofs.Cited.{Among, Ascend, BTreeSet, Bool, Bor, Err, Global, HasTextsOf, IfOk, IsStrictlySortedBy, IsTextOf, IsTrue, List, Ok, Result, Text, Vec, [], among-true, ap, arith, bytes_eq, bytes_eq-Decides, common_steps, false≢true, get_or, inl, inr, is_among-true, is_at, is_eq-slice_cmp, length, length-map, list_any}
use Rattle.cargo_toml_resolve.proofs.Cited.{list_any-append, map, map_push, nat_cmp, nth_text, or-false, or_cases, or_left, or_right, refl, set_has, slice_cmp, subst, sym, take, take_more, texts_ascend, texts_now, ℕ, ◌++◌, ◌+◌, ◌<◌, ◌||◌, ◌↔◌, ◌∙◌, ◌∷◌, ◌≡◌, ◌⊎◌}
use Rattle.cargo_toml_resolve.proofs.Steps.{among_at, among_push, item_at}

abbrev texts : List (Bor Text) → List Text
texts xs = map (λ t. t.now) xs

pub among_keys : (f : Text) (ks : List (Bor Text)) → Among (texts ks) f ↔ IsTrue (list_any (is_at (λ k. slice_cmp nat_cmp f k.now)) ks)
among_keys f ks = (into ks, out ks)
  where
    into : (ks : List (Bor Text)) → Among (texts ks) f → IsTrue (list_any (is_at (λ k. slice_cmp nat_cmp f k.now)) ks)
    into [] i = absurd i
    into (k ∷ ks) (inl e) = or_left _ _ (is_eq-slice_cmp f k.now ∙ (bytes_eq-Decides f k.now).1 e)
    into (k ∷ ks) (inr i) = or_right _ _ (into ks i)

    out : (ks : List (Bor Text)) → IsTrue (list_any (is_at (λ k. slice_cmp nat_cmp f k.now)) ks) → Among (texts ks) f
    out [] e = absurd (false≢true e)
    out (k ∷ ks) e = elim (or_cases _ _ e) [ inl h ↦ inl ((bytes_eq-Decides f k.now).0 (sym (is_eq-slice_cmp f k.now) ∙ h)) | inr i ↦ inr (out ks i) ]

pub all_taken : {E : Type 0} (r : Result (Vec (Bor Text) Global) E) (s : BTreeSet (Bor Text)) → IfOk r (λ v. v.items ≡ s.keys) → IfOk r (λ v. (f : Text) → Among (texts v.items) f ↔ IsTrue (set_has s f))
all_taken r s e = grind (arith, among_keys)

pub taken_in_order : {E : Type 0} (r : Result (Vec (Bor Text) Global) E) (ks : List (Bor Text)) → IsStrictlySortedBy (λ (x : Bor Text) (y : Bor Text). slice_cmp nat_cmp x.now y.now) ks → IfOk r (λ v. v.items ≡ ks)
    → IfOk r (λ v. Ascend (texts v.items))
taken_in_order (Ok v) ks ordered e = subst (λ xs. Ascend (texts xs)) (sym e) (texts_ascend (λ (t : Bor Text). t.now) ks ordered)
taken_in_order (Err _) ks ordered e = tt

pub text_push : (ts : List (Bor Text)) (t : Bor Text) (x : Text) → Among (texts_now (ts ++ t ∷ [])) x ↔ (Among (texts_now ts) x ⊎ (x ≡ t.now))
text_push ts t x = subst (λ xs. Among xs x ↔ (Among (texts_now ts) x ⊎ (x ≡ t.now))) (sym (map_push (λ (t : Bor Text). t.now) ts t)) (among_push (texts_now ts) t.now x)

-- the texts of a set that a loop has met
abbrev pub seen : List (Bor (Bor Text)) → List Text
seen ks = texts_now (map (λ k. k.now) ks)

pub seen_push : (ks : List (Bor (Bor Text))) (k : Bor (Bor Text)) (x : Text) → Among (seen (ks ++ k ∷ [])) x ↔ (Among (seen ks) x ⊎ (x ≡ k.now.now))
seen_push ks k x = subst (λ ts. Among (texts_now ts) x ↔ (Among (seen ks) x ⊎ (x ≡ k.now.now))) (sym (map_push (λ (k : Bor (Bor Text)). k.now) ks k)) (text_push (map (λ k. k.now) ks) k.now x)

pub all_seen : (s : BTreeSet (Bor Text)) (ks : List (Bor (Bor Text))) → map (λ k. k.now) ks ≡ s.keys → (x : Text) → Among (seen ks) x ↔ IsTrue (set_has s x)
all_seen s ks all x = subst (λ (ts : List (Bor Text)). Among (texts_now ts) x ↔ IsTrue (set_has s x)) (sym all) (among_keys x s.keys)

-- the place of a number that is read is below what all of them are below
pub place_below : (numbers : List ℕ) (n i x p : ℕ) → ((y : ℕ) → Among numbers y → y < n) → i < length numbers → x ≡ get_or numbers i x → p ≡ x → p < n
place_below numbers n i x p inside lt is at = subst (λ y. y < n) (sym (item_at numbers i x p lt is at)) (inside (get_or numbers i 0) (among_at numbers i lt))

-- a set that tells of each text whether it is one of a list has those of the list
pub set_made : {E : Type 0} (xs : List Text) (r : Result (BTreeSet (Bor Text)) E) → IfOk r (λ s. (x : Text) → set_has s x ≡ list_any (bytes_eq x) xs)
    → IfOk r (λ s. (x : Text) → IsTrue (set_has s x) ↔ Among xs x)
set_made xs r h = grind (arith, is_among-true, among-true)

module _ (texts : List Text) where
  from_number : (numbers : List ℕ) (x : Text) → Among (map (nth_text texts) numbers) x → (j : ℕ) × (nth_text texts j ≡ x) × Among numbers j
  from_number [] x i = absurd i
  from_number (n ∷ ns) x (inl e) = (n, sym e, inl refl)
  from_number (n ∷ ns) x (inr i) = let f = from_number ns x i in (f.0, f.1, inr f.2)

  to_text : (numbers : List ℕ) (j : ℕ) → Among numbers j → Among (map (nth_text texts) numbers) (nth_text texts j)
  to_text [] j i = absurd i
  to_text (n ∷ ns) j (inl e) = inl (ap (nth_text texts) e)
  to_text (n ∷ ns) j (inr i) = inr (to_text ns j i)

-- the texts of all numbers
pub all_texts_put : (texts : List (Bor Text)) (numbers ns : List ℕ) (x : Text) → ((n : ℕ) → Among numbers n → n < length texts) → ns ≡ numbers
    → Among (map (nth_text (texts_now texts)) ns) x ↔ IsTextOf (texts_now texts) numbers x
all_texts_put texts numbers ns x inside all = grind (arith, from_number (texts_now texts) numbers x, length-map, to_text)

-- a set that has the texts of all numbers
pub has_all : (texts : List (Bor Text)) (numbers : List ℕ) (s : BTreeSet (Bor Text)) → ((x : ℕ) → Among numbers x → x < length texts)
    → ((x : Text) → IsTrue (set_has s x) ↔ Among (map (nth_text (texts_now texts)) numbers) x) → HasTextsOf (texts_now texts) numbers s
has_all texts numbers s inside h x = grind (arith, all_texts_put texts numbers numbers x inside refl)

-- the set of their texts is what the numbers stand for
pub set_of_numbers : {E : Type 0} (texts : List (Bor Text)) (numbers : List ℕ) (ks : List (Bor Text)) (r : Result (BTreeSet (Bor Text)) E) →
    ((x : ℕ) → Among numbers x → x < length texts) → texts_now ks ≡ map (nth_text (texts_now texts)) numbers →
    IfOk r (λ s. (x : Text) → IsTrue (set_has s x) ↔ Among (texts_now ks) x) → IfOk r (HasTextsOf (texts_now texts) numbers)
set_of_numbers texts numbers ks (Err e) inside are h = tt
set_of_numbers texts numbers ks (Ok s) inside are h = has_all texts numbers s inside (λ x. subst (λ l. IsTrue (set_has s x) ↔ Among l x) are (h x))

-- one more is put into a set
pub one_inserted : (texts : List Text) (nodes : List ℕ) (i : ℕ) (s n : Text → Bool) (k : Text) → i < length nodes → k ≡ nth_text texts (get_or nodes i 0)
    → ((t : Text) → s t ≡ list_any (bytes_eq t) (map (nth_text texts) (take i nodes))) → ((t : Text) → n t ≡ (s t || bytes_eq t k))
    → (t : Text) → n t ≡ list_any (bytes_eq t) (map (nth_text texts) (take (i + 1) nodes))
one_inserted texts nodes i s n k lt is were put t = grind (arith, common_steps, take_more, map_push, list_any-append, or-false)

-- a set in which each was put
pub set_of_inserted : {E : Type 0} (texts : List (Bor Text)) (numbers : List ℕ) (r : Result (BTreeSet (Bor Text)) E) → ((x : ℕ) → Among numbers x → x < length texts)
    → IfOk r (λ s. (x : Text) → IsTrue (set_has s x) ↔ Among (map (nth_text (texts_now texts)) numbers) x) → IfOk r (HasTextsOf (texts_now texts) numbers)
set_of_inserted texts numbers (Err e) inside h = tt
set_of_inserted texts numbers (Ok s) inside h = has_all texts numbers s inside h
