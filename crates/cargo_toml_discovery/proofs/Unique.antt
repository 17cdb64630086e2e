-- Texts in order, each once, are given by which they are.
use Rattle.cargo_toml_discovery.proofs.Cited.{AllByRecursion, BTreeSet, Bool, Equal, Global, Greater, IsOrdered, IsStrictlySortedBy, Less, List, Name, Ordering, String, [], ap, btree_set_from_contains, bytes_eq, bytes_eq-Decides, contains_text, exact_bytes, false, has_text, is_eq, is_eq-slice_cmp, list_any, map, match_ordering, nat_cmp, nat_list_cmp_total, ordered, put_in, refl, slice_cmp, string_bytes, string_cmp, sym, texts_in, true, ◌||◌, ◌∙◌, ◌∷◌, ◌≡◌}

abbrev pub compare : Name → Name → Ordering
compare a b = slice_cmp nat_cmp a b

-- each text stands after this one in byte order, and texts stand in that order
abbrev pub AllAbove : Name → List Name → Type 0
AllAbove t us = AllByRecursion (λ u. compare t u ≡ Less) us

abbrev pub Sorted : List Name → Type 0
Sorted ts = IsStrictlySortedBy compare ts

above-less : (t u : Name) (us : List Name) → compare t u ≡ Less → AllAbove u us → AllAbove t us
above-less t u [] h k = tt
above-less t u (v ∷ vs) h k = (nat_list_cmp_total.trans t u v h k.0, above-less t u vs h k.1)

turned : (t u : Name) → compare t u ≡ Greater → compare u t ≡ Less
turned t u h = let e = nat_list_cmp_total.antisymm u t in rw (e, h) refl

above-put_in : (b t : Name) (us : List Name) → compare b t ≡ Less → AllAbove b us → AllAbove b (put_in t us)
above-put_in b t [] h k = (h, tt)
above-put_in b t (u ∷ us) h k = elim (compare t u) as (λ o. AllAbove b (match_ordering o (t ∷ u ∷ us) (u ∷ us) (u ∷ put_in t us)))
    [ Less ↦ (h, k) | Equal ↦ k | Greater ↦ (k.0, above-put_in b t us h k.1) ]

ascend-put_in : (t : Name) (us : List Name) → Sorted us → Sorted (put_in t us)
unfolding IsStrictlySortedBy
ascend-put_in t [] h = (tt, tt)
ascend-put_in t (u ∷ us) h = elim (compare t u) as (λ o. compare t u ≡ o → Sorted (match_ordering o (t ∷ u ∷ us) (u ∷ us) (u ∷ put_in t us)))
    [ Less ↦ λ e. ((e, above-less t u us e h.0), h) | Equal ↦ λ e. h | Greater ↦ λ e. (above-put_in u t us (turned t u e) h.0, ascend-put_in t us h.1) ] refl

pub ascend-ordered : (ts : List Name) → Sorted (ordered ts)
unfolding IsStrictlySortedBy
ascend-ordered [] = tt
ascend-ordered (t ∷ ts) = ascend-put_in t (ordered ts) (ascend-ordered ts)

same_text : (a b : Name) → compare a b ≡ Equal → a ≡ b
same_text a b h = (bytes_eq-Decides a b).0 (sym (is_eq-slice_cmp a b) ∙ ap is_eq h)

pub or-swap : (a b r : Bool) → a || (b || r) ≡ b || (a || r)
or-swap true true r = refl
or-swap true false r = refl
or-swap false true r = refl
or-swap false false r = refl

or-twice : (a r : Bool) → a || r ≡ a || (a || r)
or-twice true r = refl
or-twice false r = refl

has-put_in : (q t : Name) (us : List Name) → has_text (put_in t us) q ≡ bytes_eq q t || has_text us q
has-put_in q t [] = refl
has-put_in q t (u ∷ us) = elim (compare t u) as (λ o. compare t u ≡ o → has_text (match_ordering o (t ∷ u ∷ us) (u ∷ us) (u ∷ put_in t us)) q ≡ bytes_eq q t || (bytes_eq q u || has_text us q)) [
  | Less ↦ λ e. refl
  | Equal ↦ λ e. or-twice (bytes_eq q u) (has_text us q) ∙ ap (λ (v : Name). bytes_eq q v || (bytes_eq q u || has_text us q)) (sym (same_text t u e))
  | Greater ↦ λ e. ap (λ (b : Bool). bytes_eq q u || b) (has-put_in q t us) ∙ or-swap (bytes_eq q u) (bytes_eq q t) (has_text us q)
] refl

pub has-ordered : (q : Name) (ts : List Name) → has_text (ordered ts) q ≡ has_text ts q
has-ordered q [] = refl
has-ordered q (t ∷ ts) = has-put_in q t (ordered ts) ∙ ap (λ (b : Bool). bytes_eq q t || b) (has-ordered q ts)

pub own : (t : Name) → bytes_eq t t ≡ true
own t = (bytes_eq-Decides t t).1 refl

-- whether a text is there, by the order and by its bytes
pub any_equal : {K : Type 0} (f : K → Name) (t : Name) (ks : List K) → list_any (λ k. is_eq (compare t (f k))) ks ≡ list_any (λ k. bytes_eq t (f k)) ks
any_equal f t ks = simp is_eq-slice_cmp

unique : (xs ys : List Name) → Sorted xs → Sorted ys → ((q : Name) → has_text xs q ≡ has_text ys q) → xs ≡ ys
unique xs ys a b h =
    let s : BTreeSet Name = record { keys = xs } in
    let t : BTreeSet Name = record { keys = ys } in
    btree_set_from_contains nat_list_cmp_total s t a b (λ q. any_equal (λ y. y) q xs ∙ h q ∙ sym (any_equal (λ y. y) q ys)) exact_bytes

-- the texts of a set
above-keys : (k : String Global) (ks : List (String Global)) → AllByRecursion (λ y. string_cmp k y ≡ Less) ks → AllAbove (string_bytes k) (map (λ k. string_bytes k) ks)
above-keys k [] h = tt
above-keys k (u ∷ us) h = (h.0, above-keys k us h.1)

ascend-keys : (ks : List (String Global)) → IsStrictlySortedBy string_cmp ks → Sorted (map (λ k. string_bytes k) ks)
unfolding IsStrictlySortedBy
ascend-keys [] h = tt
ascend-keys (k ∷ ks) h = (above-keys k ks h.0, ascend-keys ks h.1)

pub ascend-set : (s : BTreeSet (String Global)) → IsOrdered string_cmp s → Sorted (texts_in s)
ascend-set s h = ascend-keys s.keys h

has-keys : (t : Name) (ks : List (String Global)) → list_any (λ k. bytes_eq t (string_bytes k)) ks ≡ has_text (map (λ k. string_bytes k) ks) t
has-keys t [] = refl
has-keys t (k ∷ ks) = ap (λ (b : Bool). bytes_eq t (string_bytes k) || b) (has-keys t ks)

pub has-set : (t : Name) (s : BTreeSet (String Global)) → contains_text s t ≡ has_text (texts_in s) t
has-set t s = any_equal (λ k. string_bytes k) t s.keys ∙ has-keys t s.keys

-- a set in order has the texts, so they are these
pub texts_in-ordered : (s : BTreeSet (String Global)) (ts : List Name) → IsOrdered string_cmp s → ((t : Name) → contains_text s t ≡ has_text ts t) → ordered ts ≡ texts_in s
texts_in-ordered s ts h e = unique (ordered ts) (texts_in s) (ascend-ordered ts) (ascend-set s h) (λ q. has-ordered q ts ∙ sym (e q) ∙ has-set q s)

pub texts_in-itself : (s : BTreeSet (String Global)) → IsOrdered string_cmp s → ordered (texts_in s) ≡ texts_in s
texts_in-itself s h = unique (ordered (texts_in s)) (texts_in s) (ascend-ordered (texts_in s)) (ascend-set s h) (λ q. has-ordered q (texts_in s))
