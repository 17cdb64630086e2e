-- Texts that get numbers, and rows of numbers, one after another.
use Rattle.cargo_toml_resolve.proofs.Cited.{Among, AreRead, AreTextsOf, Ascend, BTreeMap, BTreeSet, Bool, Bor, DepAction, Extends, Feature, Gains, HasNames, IfSome, IsNaming, IsNodeOf, IsPlain, IsTarget, IsTrue, IsWanted, Leads, LeadsTo, List, None, Option, Some, Text, [], action_at, action_of, among_at, ap, arith, btree_set_len, bytes_eq-Decides, cases_eq, cases_lt, deeds_of, deref_pair, false, false≢true, get_or, get_or-append_seam, get_or-take, get_or_append_left, get_or_past}
use Rattle.cargo_toml_resolve.proofs.Cited.{if◌then◌else◌, inl, inr, is_eq-slice_cmp, is_some, is_some-lookup, length, length-map, length-take-le, map, map_push, names_of, none_in, nth_text, once, option_copied, option_map, option_map_or, place_names, refl, replicate, row_items, set_has, slice_get, subst, suc, sym, take, take-map, take-take, take_at, texts_now, true, zero, ℕ, ◌++◌, ◌+◌, ◌<◌, ◌↔◌, ◌∙◌, ◌∷◌, ◌≡◌, ◌≢◌, ◌≤◌, ◌⊎◌}
use Rattle.cargo_toml_resolve.proofs.InOrder.{among_keys, all_seen, seen, seen_push}
use Rattle.cargo_toml_resolve.proofs.{Steps.among_more, Steps.among_push, Learning.no_keys}
use Rattle.std.proofs.Common.{btree_map_len}
use Rattle.std.proofs.lemmas.List.{take_all}
use Rattle.std.proofs.lemmas.List.{length-append}

-- a list of one item
only_item : {X : Type 0} (xs : List X) (x : X) → length xs ≡ 1 → slice_get xs 0 ≡ Some x → xs ≡ x ∷ []
only_item [] x len first = absurd (omega (arith, len))
only_item (y ∷ []) x len first = grind arith
only_item (y ∷ z ∷ zs) x len first = absurd (omega (arith, len))

-- nothing is gained
pub none_gained : (n own : ℕ) (P : ℕ → Type 0) (row : List ℕ) → ((x : ℕ) → ¬ P x) → Gains n own P row row
none_gained n own P row none x = (λ i. inl i, elim [ inl i ↦ i | inr t ↦ absurd (none x t.2) ])

-- first these, then those
pub both_gained : (n own : ℕ) (P Q : ℕ → Type 0) (old mid new : List ℕ) → Gains n own P old mid → Gains n own Q mid new → Gains n own (λ x. P x ⊎ Q x) old new
both_gained n own P Q old mid new p q x = grind arith

-- the same places gain the same
pub gained_alike : (n m own : ℕ) (P Q : ℕ → Type 0) (old new : List ℕ) → n ≡ m → ((x : ℕ) → x < m → P x ↔ Q x) → Gains n own P old new → Gains m own Q old new
gained_alike n m own P Q old new len same h = grind arith

-- the keys among the nodes of what is named
pub named_gained : (n own : ℕ) (texts : List Text) (P : Text → Type 0) (nodes old new : List ℕ) → HasNames n texts P nodes → Gains n own (Among nodes) old new → Gains n own (λ x. P (nth_text texts x)) old new
named_gained n own texts P nodes old new names h x = grind arith

-- one more node of a list
module _ (n own : ℕ) (nodes : List ℕ) (i node : ℕ) (old row : List ℕ) (lt : i < length nodes) (is : node ≡ get_or nodes i 0) (h : Gains n own (Among (take i nodes)) old row) where
  pub node_put : (node < n) × (node ≢ own) → Gains n own (Among (take (i + 1) nodes)) old (row ++ node ∷ [])
  node_put good x = grind (arith, among_more, among_push)

  pub node_left : ¬ ((node < n) × (node ≢ own)) → Gains n own (Among (take (i + 1) nodes)) old row
  node_left bad x = grind (arith, among_more)

-- rows that gain features
module _ (keys : List (Bor Text)) (own : ℕ) where
  module _ (up : Ascend (texts_now keys)) (key : Text) (row : List ℕ) where
    one_key : (i j : ℕ) → i < length keys → j < length keys → nth_text (texts_now keys) i ≡ nth_text (texts_now keys) j → i ≡ j
    one_key i j lt lt' same = let long = length-map keys (λ (t : Bor Text). t.now) in once (texts_now keys) up i j (omega (arith, long, lt)) (omega (arith, long, lt')) same

    pub key_put : (n : ℕ) → (n < length keys) × (nth_text (texts_now keys) n ≡ key) → n ≢ own → Gains (length keys) own (λ x. nth_text (texts_now keys) x ≡ key) row (row ++ n ∷ [])
    key_put n at other x = grind (arith, among_push, one_key)

    pub key_own : (n : ℕ) → (n < length keys) × (nth_text (texts_now keys) n ≡ key) → n ≡ own → Gains (length keys) own (λ x. nth_text (texts_now keys) x ≡ key) row row
    key_own n at is x = (λ i. inl i, elim [ inl i ↦ i | inr t ↦ absurd (t.1 (one_key x n t.0 at.0 (t.2 ∙ sym at.1) ∙ is)) ])

    pub key_missing : (Among (texts_now keys) key → ⊥) → Gains (length keys) own (λ x. nth_text (texts_now keys) x ≡ key) row row
    key_missing none x = grind (arith, among_at, length-map)

  -- one more name
  pub name_gained : (ks : List (Bor (Bor Text))) (k : Bor (Bor Text)) (old row new : List ℕ) → Gains (length keys) own (λ x. Among (seen ks) (nth_text (texts_now keys) x)) old row
      → Gains (length keys) own (λ x. nth_text (texts_now keys) x ≡ k.now.now) row new → Gains (length keys) own (λ x. Among (seen (ks ++ k ∷ [])) (nth_text (texts_now keys) x)) old new
  name_gained ks k old row new so_far more x = grind (arith, seen_push)

  pub names_gained : (s : BTreeSet (Bor Text)) (ks : List (Bor (Bor Text))) (old row : List ℕ) → map (λ k. k.now) ks ≡ s.keys → Gains (length keys) own (λ x. Among (seen ks) (nth_text (texts_now keys) x)) old row
      → Gains (length keys) own (λ x. IsTrue (set_has s (nth_text (texts_now keys) x))) old row
  names_gained s ks old row all h x = grind (arith, all_seen)

  -- the one name of a set
  pub one_gained : (s : BTreeSet (Bor Text)) (name : Text) (old new : List ℕ) → ((x : Text) → (x ≡ name) ↔ IsTrue (set_has s x))
      → Gains (length keys) own (λ x. nth_text (texts_now keys) x ≡ name) old new → Gains (length keys) own (λ x. IsTrue (set_has s (nth_text (texts_now keys) x))) old new
  one_gained s name old new is = gained_alike (length keys) (length keys) own (λ x. nth_text (texts_now keys) x ≡ name) (λ x. IsTrue (set_has s (nth_text (texts_now keys) x))) old new refl (λ x lt. is (nth_text (texts_now keys) x))

  -- the keys of actions that a loop has met
  abbrev pub acted : List (Bor (Bor Text) × Bor DepAction) → List Text
  acted es = map (λ e. e.0.now.now) es

  -- those of the keys so far that are acted on plainly
  abbrev pub PlainSoFar : BTreeMap (Bor Text) DepAction → List (Bor (Bor Text) × Bor DepAction) → ℕ → Type 0
  PlainSoFar m es x = Among (acted es) (nth_text (texts_now keys) x) × IsPlain (action_at m (nth_text (texts_now keys) x))

  -- what the action on one more key enables
  pub action_put : (m : BTreeMap (Bor Text) DepAction) (es : List (Bor (Bor Text) × Bor DepAction)) (k : Bor (Bor Text)) (a : Bor DepAction) (old row new : List ℕ)
      → action_at m k.now.now ≡ Some (action_of a.now) → Gains (length keys) own (PlainSoFar m es) old row
      → Gains (length keys) own (λ x. (nth_text (texts_now keys) x ≡ k.now.now) × IsPlain (Some (action_of a.now))) row new → Gains (length keys) own (PlainSoFar m (es ++ (k, a) ∷ [])) old new
  action_put m es k a old row new there so_far more x = grind (arith, map_push, among_push)

  -- whether the action is plain or not
  pub action_plain : (key : Text) (a : DepAction) (old new : List ℕ) → IsPlain (Some (action_of a)) → Gains (length keys) own (λ x. nth_text (texts_now keys) x ≡ key) old new
      → Gains (length keys) own (λ x. (nth_text (texts_now keys) x ≡ key) × IsPlain (Some (action_of a))) old new
  action_plain key a old new plain = gained_alike (length keys) (length keys) own _ _ old new refl (λ x lt. (λ e. (e, plain), λ p. p.0))

  pub action_left : (key : Text) (a : DepAction) (row : List ℕ) → ¬ IsPlain (Some (action_of a)) → Gains (length keys) own (λ x. (nth_text (texts_now keys) x ≡ key) × IsPlain (Some (action_of a))) row row
  action_left key a row none = none_gained (length keys) own _ row (λ x p. none p.1)

  keys_shown : (es : List (Bor (Bor Text) × Bor DepAction)) → acted es ≡ texts_now (map (λ (e : Bor Text × DepAction). e.0) (map deref_pair es))
  keys_shown [] = refl
  keys_shown (e ∷ es) = ap (λ ys. e.0.now.now ∷ ys) (keys_shown es)

  plain_there : (o : Option DepAction) → IsPlain (option_map action_of o) → is_some o ≡ true
  plain_there o p = grind arith

  -- what the one action of a map enables
  pub one_acted : (m : BTreeMap (Bor Text) DepAction) (k : Bor Text) (a : DepAction) (old new : List ℕ) → btree_map_len m ≡ 1 → slice_get m.entries 0 ≡ Some (k, a)
      → Gains (length keys) own (λ x. (nth_text (texts_now keys) x ≡ k.now) × IsPlain (Some (action_of a))) old new → Gains (length keys) own (λ x. IsPlain (action_at m (nth_text (texts_now keys) x))) old new
  one_acted m k a old new len first = gained_alike (length keys) (length keys) own _ _ old new refl (λ x lt. grind (arith, only_item m.entries (k, a) len first, is_eq-slice_cmp, bytes_eq-Decides))

  pub all_actions : (m : BTreeMap (Bor Text) DepAction) (es : List (Bor (Bor Text) × Bor DepAction)) (old row : List ℕ) → map deref_pair es ≡ m.entries → Gains (length keys) own (PlainSoFar m es) old row
      → Gains (length keys) own (λ x. IsPlain (action_at m (nth_text (texts_now keys) x))) old row
  all_actions m es old row all h x = grind (arith, keys_shown es, among_keys, is_some-lookup, plain_there)

-- flags with others after them that don't stand
pub flags_kept : (flags : List Bool) (k i : ℕ) → IsWanted (flags ++ replicate k false) true i ↔ IsWanted flags true i
flags_kept [] k i = (λ w. absurd (false≢true (sym (unset k i) ∙ w)), λ w. absurd (false≢true w))
  where
    unset : (k i : ℕ) → get_or (replicate k false) i false ≡ false
    unset zero i = refl
    unset (suc k) zero = refl
    unset (suc k) (suc i) = unset k i
flags_kept (b ∷ flags) k zero = (λ w. w, λ w. w)
flags_kept (b ∷ flags) k (suc i) = flags_kept flags k i

pub all_kept : (flags new : List Bool) (size k : ℕ) → length flags ≤ size → new ≡ take size flags ++ replicate k false
    → (i : ℕ) → IsWanted new true i ↔ IsWanted flags true i
all_kept flags new size k fits filled i = grind (arith, take_all size flags fits, flags_kept flags k i)

-- the row of one feature is that of its place
pub target_is : (vs : List Feature) (keys : List Text) (own : ℕ) (v : Feature) (row : List ℕ) → slice_get vs own ≡ Some v
    → Gains (length vs) own (λ x. LeadsTo v (nth_text keys x)) [] row → (x : ℕ) → Among row x ↔ ((x < length vs) × IsTarget vs keys own x)
target_is vs keys own v row there h x = subst (λ o. Among row x ↔ ((x < length vs) × ((x ≢ own) × (IsTrue (option_map_or (λ d. set_has d.0 (nth_text keys x)) (option_map deeds_of o) false) ⊎ IsPlain (option_map_or (λ d. action_at d.1 (nth_text keys x)) (option_map deeds_of o) None))))) (sym there) (grind (arith, h x))

pub extends_none : (n : ℕ) (ts : List Text) → Extends n ts ts
extends_none n ts = record { front = take_all (length ts) ts (omega arith); apart = λ j le lt. absurd (omega (arith, le, lt)) }

module _ (n : ℕ) (old new : List Text) (h : Extends n old new) where
  pub longer : length old ≤ length new
  longer = grind (arith, cases_lt, take_all)

  pub nth_still : (j : ℕ) → j < length old → nth_text new j ≡ nth_text old j
  nth_still j lt = sym (get_or-take (length old) new j [] lt) ∙ ap (λ ts. nth_text ts j) h.front

  pub front_still : n ≤ length old → take n new ≡ take n old
  front_still fits = sym (take-take n (length old) new fits) ∙ ap (take n) h.front

  pub names_still : (P : Text → Type 0) (row : List ℕ) → n ≤ length old → HasNames n old P row → HasNames n new P row
  names_still P row fits r = grind (arith, longer, nth_still)

  pub extends_then : (late : List Text) → n ≤ length old → Extends n new late → Extends n old late
  extends_then late fits g = grind (arith, take-take, longer, cases_lt, get_or-take, front_still fits)

-- the same of texts that are borrowed
pub fits_now : (n : ℕ) (ts : List (Bor Text)) → n ≤ length ts → n ≤ length (texts_now ts)
fits_now n ts fits = let long = length-map ts (λ (t : Bor Text). t.now) in omega (arith, long, fits)

pub texts_longer : (n : ℕ) (old new : List (Bor Text)) → n ≤ length old → Extends n (texts_now old) (texts_now new) → n ≤ length new
texts_longer n old new fits h = grind (arith, longer n (texts_now old) (texts_now new) h, length-map)

pub front_text : (n : ℕ) (old new : List (Bor Text)) → n ≤ length old → Extends n (texts_now old) (texts_now new) → (x : ℕ) → x < n → nth_text (texts_now (take n new)) x ≡ nth_text (texts_now old) x
front_text n old new fits h x lt =
    let inside = fits_now n old fits in
    ap (λ us. nth_text us x) (sym (take-map (λ (t : Bor Text). t.now) n new)) ∙ get_or-take n (texts_now new) x [] lt ∙ nth_still n (texts_now old) (texts_now new) h x (omega (arith, lt, inside))

-- a text that is no key is put at the end
pub extends_push : (n : ℕ) (ts : List Text) (name : Text) → ¬ Among (take n ts) name → Extends n ts (ts ++ name ∷ [])
extends_push n ts name other = record {
  front = take_at ts (name ∷ []) (length ts) refl;
  apart = λ j le lt.
      let at : j ≡ length ts = omega (arith, length-append ts (name ∷ []), le, lt) in
      subst (λ k. ¬ Among (take n ts) k) (sym (ap (nth_text (ts ++ name ∷ [])) at ∙ get_or-append_seam ts name [] [])) other;
}

-- the node of a name is that of a key, or stands at the end
pub node_found : (n : ℕ) (ts : List Text) (name : Text) (i : ℕ) → n ≤ length ts → Ascend (take n ts) → i < n → nth_text ts i ≡ name → IsNodeOf n ts name i
node_found n ts name i fits up lt is = grind (arith, length-take-le n ts fits, once, get_or-take n ts i, get_or-take)

pub node_pushed : (n : ℕ) (ts : List Text) (name : Text) → n ≤ length ts → ¬ Among (take n ts) name → IsNodeOf n (ts ++ name ∷ []) name (length ts)
node_pushed n ts name fits other = record {
  inside = let long = length-append ts (name ∷ []) in omega (arith, long);
  text = get_or-append_seam ts name [] [];
  key = λ i lt is. grind (arith, get_or-take n ts i, get_or_append_left ts (name ∷ []), among_at (take n ts) i, length-take-le n ts fits);
}

-- no name yet, one more, and all of a set
pub names_none : (n : ℕ) (ts : List Text) (row : List ℕ) → row ≡ [] → HasNames n ts (Among (seen [])) row
names_none n ts row none = grind arith

pub names_more : (n : ℕ) (ts : List Text) (ks : List (Bor (Bor Text))) (k : Bor (Bor Text)) (row : List ℕ) (x : ℕ) → IsNodeOf n ts k.now.now x → HasNames n ts (Among (seen ks)) row
    → HasNames n ts (Among (seen (ks ++ k ∷ []))) (row ++ x ∷ [])
names_more n ts ks k row x node h = grind (arith, among_push row x x, among_push, seen_push)

pub names_alike : (n : ℕ) (ts : List Text) (P Q : Text → Type 0) (row : List ℕ) → ((k : Text) → P k ↔ Q k) → HasNames n ts P row → HasNames n ts Q row
names_alike n ts P Q row same h = grind arith

pub names_empty : (n : ℕ) (ts : List Text) (s : BTreeSet (Bor Text)) (row : List ℕ) → row ≡ [] → btree_set_len s ≡ 0 → HasNames n ts (λ k. IsTrue (set_has s k)) row
names_empty n ts s row none empty = names_alike n ts (Among (seen [])) (λ k. IsTrue (set_has s k)) row (λ k. (λ i. absurd i, λ y. absurd (false≢true (sym (none_in s (no_keys s.keys empty) k) ∙ y)))) (names_none n ts row none)

-- the name of a set of one
pub one_name : (s : BTreeSet (Bor Text)) (o : Option (Bor (Bor Text))) → btree_set_len s ≡ 1 → IfSome o (λ k. slice_get s.keys 0 ≡ Some k.now)
    → IfSome (option_copied o) (λ n. (x : Text) → (x ≡ n.now) ↔ IsTrue (set_has s x))
one_name s None len first = tt
one_name s (Some k) len first = λ x.
    let has : Among (texts_now (k.now ∷ [])) x ↔ IsTrue (set_has s x) = subst (λ ks. Among (texts_now ks) x ↔ IsTrue (set_has s x)) (only_item s.keys k.now len first) (among_keys x s.keys) in
    (λ e. has.0 (inl e), λ y. elim (has.1 y) [ inl e ↦ e | inr none ↦ absurd none ])

pub names_all : (n : ℕ) (ts : List Text) (s : BTreeSet (Bor Text)) (ks : List (Bor (Bor Text))) (row : List ℕ) → map (λ k. k.now) ks ≡ s.keys
    → HasNames n ts (Among (seen ks)) row → HasNames n ts (λ k. IsTrue (set_has s k)) row
names_all n ts s ks row all h = names_alike n ts (Among (seen ks)) (λ k. IsTrue (set_has s k)) row (all_seen s ks all) h

-- the names of features, with other texts after them
module _ (vs : List Feature) (texts : List Text) (h : AreTextsOf vs texts) where
  pub keys_fit : length vs ≤ length texts
  keys_fit = grind (arith, cases_lt, length-map, take_all)

  -- a feature's number is its place
  pub key_text : (i : ℕ) → i < length vs → nth_text texts i ≡ nth_text (names_of vs) i
  key_text i lt = sym (get_or-take (length vs) texts i [] lt) ∙ ap (λ ks. nth_text ks i) h.keys

-- ---- rows that are put one after another, and those of features
-- what stands in a row once one more is put at the end
list_push : (rows : List (List ℕ)) (row : List ℕ) (a b : ℕ) → Leads (rows ++ row ∷ []) a b ↔ (((a < length rows) × Leads rows a b) ⊎ ((a ≡ length rows) × Among row b))
list_push rows row a b = grind (arith, cases_lt a (length rows), cases_eq a (length rows), get_or_append_left rows (row ∷ []), get_or-append_seam rows row [], get_or_past (rows ++ row ∷ []) a, length-append rows (row ∷ []))

-- the first n rows hold what P says
abbrev pub IsFilled : (ℕ → ℕ → Type 0) → ℕ → List (List ℕ) → Type 0
IsFilled P n rows = (length rows ≡ n) × ((a b : ℕ) → a < n → Leads rows a b ↔ P a b)

pub none_filled : (P : ℕ → ℕ → Type 0) (rows : List (List ℕ)) → rows ≡ [] → IsFilled P 0 rows
none_filled P rows is = (ap length is, λ a b lt. absurd (omega (arith, lt)))

pub one_more_filled : (P : ℕ → ℕ → Type 0) (n : ℕ) (rows : List (List ℕ)) (row : List ℕ) → IsFilled P n rows → ((b : ℕ) → Among row b ↔ P n b) → IsFilled P (n + 1) (rows ++ row ∷ [])
one_more_filled P n rows row h is = grind (arith, length-append rows (row ∷ []), list_push, cases_eq)

-- where the features lead
abbrev pub Targets : List Feature → ℕ → ℕ → Type 0
Targets vs i x = (x < length vs) × IsTarget vs (names_of vs) i x

-- what the feature in place i names
abbrev pub Names : List Feature → ℕ → Text → Type 0
Names vs i k = IsTrue (place_names vs i k)

-- the rows of the first n features
pub record RowsSoFar (vs : List Feature) (flags : List Bool) (n : ℕ) (texts : List Text) (edges names : List (List ℕ)) : Type 0 where
  pub texts_of : AreTextsOf vs texts
  pub edges_are : IsFilled (Targets vs) n edges
  pub names_len : length names ≡ n
  pub names_are : (i : ℕ) → i < n → IsNaming edges flags i → HasNames (length vs) texts (Names vs i) (row_items names i)
  pub inside : (i x : ℕ) → Leads names i x → x < length texts

row_push : (rows : List (List ℕ)) (row : List ℕ) (i : ℕ) → i ≡ length rows → row_items (rows ++ row ∷ []) i ≡ row
row_push rows row i at = ap (row_items (rows ++ row ∷ [])) at ∙ get_or-append_seam rows row [] []

row_old : (rows : List (List ℕ)) (row : List ℕ) (i : ℕ) → i < length rows → row_items (rows ++ row ∷ []) i ≡ row_items rows i
row_old rows row i lt = get_or_append_left rows (row ∷ []) [] i lt

pub no_rows : (vs : List Feature) (flags : List Bool) (texts : List Text) (edges names : List (List ℕ)) → texts ≡ names_of vs → edges ≡ [] → names ≡ [] → RowsSoFar vs flags 0 texts edges names
no_rows vs flags texts edges names are none none' = grind (arith, length-map, take_all, none_filled)

module _ (vs : List Feature) (flags : List Bool) (n : ℕ) (texts : List Text) (edges names : List (List ℕ)) (h : RowsSoFar vs flags n texts edges names) (v : Feature) (below : n < length vs) (there : slice_get vs n ≡ Some v) where
  fits : length vs ≤ length texts
  fits = keys_fit vs texts h.texts_of

  names_here : (k : Text) → IsTrue (set_has v.enables_features k) ↔ Names vs n k
  names_here k = subst (λ o. IsTrue (set_has v.enables_features k) ↔ IsTrue (option_map_or (λ d. set_has d.0 k) (option_map deeds_of o) false)) (sym there) (λ y. y, λ y. y)

  -- one more, whose names are put if they are asked for
  pub one_more_read : (new : List Text) (row named : List ℕ) (is_asked : Bool) → Extends (length vs) texts new → Gains (length vs) n (λ x. LeadsTo v (nth_text texts x)) [] row
      → HasNames (length vs) new (λ k. IsTrue (set_has v.enables_features k)) named → (IsWanted flags true n ⊎ ((x : ℕ) × Among row x × IsWanted flags true x) → IsTrue is_asked)
      → RowsSoFar vs flags (n + 1) new (edges ++ row ∷ []) (names ++ (if is_asked then named else []) ∷ [])
  one_more_read new row named is_asked more gains has asked = record {
    texts_of = record {
      keys = front_still (length vs) texts new more fits ∙ h.texts_of.keys;
      apart = λ j le lt. elim (cases_lt j (length texts)) [
        | inl early ↦ subst (λ k. ¬ Among (names_of vs) k) (sym (nth_still (length vs) texts new more j early)) (h.texts_of.apart j le early)
        | inr late ↦ subst (λ ks. ¬ Among ks (nth_text new j)) h.texts_of.keys (more.apart j late lt)
      ];
    };
    edges_are = one_more_filled (Targets vs) n edges row h.edges_are (target_is vs (names_of vs) n v row there
        (gained_alike (length vs) (length vs) n (λ x. LeadsTo v (nth_text texts x)) (λ x. LeadsTo v (nth_text (names_of vs) x)) [] row refl
        (λ x lt. subst (λ k. LeadsTo v (nth_text texts x) ↔ LeadsTo v k) (key_text vs texts h.texts_of x lt) (λ l. l, λ l. l)) gains));
    names_len = let l = length-append names ((if is_asked then named else []) ∷ []) in let e = h.names_len in omega (arith, l, e);
    names_are = λ i lt is. elim (cases_eq i n) [
      | inl at ↦
          let yes : is_asked ≡ true = asked (elim is [
            | inl w ↦ inl (subst (IsWanted flags true) at w)
            | inr b ↦ inr (b.0, subst (λ r. Among r b.0) (row_push edges row i (at ∙ sym h.edges_are.0)) b.1, b.2)
          ]) in
          subst (HasNames (length vs) new (Names vs i)) (sym (row_push names (if is_asked then named else []) i (at ∙ sym h.names_len)))
          (subst (λ k. HasNames (length vs) new (Names vs k) (if is_asked then named else [])) (sym at)
          (subst (λ b. HasNames (length vs) new (Names vs n) (if b then named else [])) (sym yes) (names_alike (length vs) new (λ k. IsTrue (set_has v.enables_features k)) (Names vs n) named names_here has)))
      | inr other ↦
          let early : i < n = omega (arith, lt, other) in
          let old = h.names_are i early (elim is [
            | inl w ↦ inl w
            | inr b ↦ inr (b.0, subst (λ r. Among r b.0) (row_old edges row i (subst (λ k. i < k) (sym h.edges_are.0) early)) b.1, b.2)
          ]) in
          subst (HasNames (length vs) new (Names vs i)) (sym (row_old names (if is_asked then named else []) i (subst (λ k. i < k) (sym h.names_len) early)))
          (names_still (length vs) texts new more (Names vs i) (row_items names i) fits old)
    ];
    inside = λ i x l. elim (cases_lt i (length names)) [
      | inl early ↦ let lt = h.inside i x (subst (λ r. Among r x) (row_old names (if is_asked then named else []) i early) l) in let long = longer (length vs) texts new more in omega (arith, lt, long)
      | inr late ↦ grind (arith, cases_eq, row_push, length-append, get_or_past)
    ];
  }
    where
      bound : (b : Bool) (x : ℕ) → Among (if b then named else []) x → x < length new
      bound b x i = grind arith

  -- one that leads nowhere
  pub none_read : ((x : Text) → ¬ LeadsTo v x) → RowsSoFar vs flags (n + 1) texts (edges ++ [] ∷ []) (names ++ [] ∷ [])
  none_read none = one_more_read texts [] [] true (extends_none (length vs) texts)
      (λ x. (λ i. inl i, elim [ inl i ↦ i | inr t ↦ absurd (none (nth_text texts x) t.2) ]))
      (record { inside = λ x i. absurd i; only = λ x i. absurd i; all = λ k y. absurd (none k (inl y)); keys = λ x lt y. absurd (none (nth_text texts x) (inl y)) })
      (λ w. refl)

-- all of them
pub all_read : (vs : List Feature) (flags : List Bool) (texts : List Text) (edges names : List (List ℕ)) → RowsSoFar vs flags (length vs) texts edges names → AreRead vs flags texts edges names
all_read vs flags texts edges names h = grind arith
