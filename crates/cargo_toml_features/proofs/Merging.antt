-- Listed features and implied ones are merged.
use Rattle.cargo_toml_features.proofs.Cited.{IfSome, option_map_or, ap₂, IsPartitionPoint, IsPartitionedBy, codes, default_before, told_names, Entry, Global, Vec, bytes_eq_sym, get_or-map, has_key, is_offered, is_offered_alone, nth_text, detail_in, is_below, length-map, put_first, take-append-drop, Among, Ascend, Bool, Bor, Detail, IsVertex, List, Listing, Merged, None, Option, Some, StandAt, Text, Told, Vertex, [], ap, append-nil, append_assoc, arith, bytes_eq, bytes_eq-Decides, common_steps, cond, drop, false, false≢true, get_or, inr, is_one_of, length, length-append, list_any-append, listed_of, listing_names, lookup, map, map-append, map_push, option_or, or-false, plain_detail, refl, rules, string_bytes, subst, sym, take, texts_in, told_of, true, vertex_at, vertex_names, ℕ, ◌++◌, ◌+◌, ◌<◌, ◌||◌, ◌∙◌, ◌∷◌, ◌≡◌, ◌≤◌}
use Rattle.cargo_toml_features.proofs.{ByPlace.at_among, Rising.before, Rising.from, Rising.last_ascends, ByPlace.taken_more, ByPlace.texts, Rising.behind, Rising.earlier_ascend, Rising.found_here, ByPlace.Below, ByPlace.lower, Rising.joined_ascend, Rising.later_ascend, Rising.strictly_above, Rising.two_ascend}
use Rattle.std.proofs.lemmas.List.Concat.{flat_map-append}
use Rattle.std.proofs.lemmas.List.{drop_all, drop_more, drop-drop, drop-take, take-take, take_at, drop_at, get_or_append_left, get_or_at}

-- ---- texts that stand in a list
pub none_stand : (all : List Text) (place : ℕ) (ts : List Text) → StandAt all place ts → StandAt all place []
none_stand all place ts h = record { there = refl; within = (let w = h.within in omega (arith, w)) }

pub first_stand : (all : List Text) (place : ℕ) (xs ys : List Text) → StandAt all place (xs ++ ys) → StandAt all place xs
first_stand all place xs ys h = record {
  there = sym (take-take (length xs) (length (xs ++ ys)) (drop place all) (let e = length-append xs ys in omega (arith, e)))
      ∙ ap (take (length xs)) h.there ∙ take_at xs ys (length xs) refl;
  within = (let w = h.within in let e = length-append xs ys in omega (arith, w, e));
}

pub rest_stand : (all : List Text) (place : ℕ) (xs ys : List Text) → StandAt all place (xs ++ ys) → StandAt all (place + length xs) ys
rest_stand all place xs ys h = record {
  there = ap (take (length ys)) (sym (drop-drop (length xs) place all))
      ∙ sym (drop-take (length xs) (length ys) (drop place all))
      ∙ ap (λ n. drop (length xs) (take n (drop place all))) (sym (length-append xs ys))
      ∙ ap (drop (length xs)) h.there ∙ drop_at xs ys (length xs) refl;
  within = (let w = h.within in let e = length-append xs ys in omega (arith, w, e));
}

-- ---- one more vertex
vertex_push : (vs : List Vertex) (v : Vertex) (f : Text) → vertex_at (vs ++ v ∷ []) f ≡ option_or (vertex_at vs f) (cond (bytes_eq f v.name.now) (Some v) None)
vertex_push [] v f = refl
vertex_push (w ∷ vs) v f = grind (arith, common_steps, vertex_push vs v f)

pub vertex_missing : (vs : List Vertex) (f : Text) → (¬ Among (vertex_names vs) f) → vertex_at vs f ≡ None
vertex_missing [] f gone = refl
vertex_missing (v ∷ vs) f gone = grind (arith, common_steps, bytes_eq-Decides, vertex_missing vs f (λ there. gone (inr there)))

names_push : (vs : List Vertex) (v : Vertex) → vertex_names (vs ++ v ∷ []) ≡ vertex_names vs ++ v.name.now ∷ []
names_push vs v = map_push (λ (w : Vertex). w.name.now) vs v

pub lookup_push : {X : Type 0} (f : Text) (es : List (Text × X)) (n : Text) (x : X) → lookup (bytes_eq f) (es ++ (n, x) ∷ []) ≡ option_or (lookup (bytes_eq f) es) (cond (bytes_eq f n) (Some x) None)
lookup_push f [] n x = refl
lookup_push f (e ∷ es) n x = grind (arith, common_steps, lookup_push f es n x)

pub behind_last : (vs : List Vertex) (v : Vertex) (us : List Text) → vertex_names (vs ++ v ∷ []) ++ us ≡ vertex_names vs ++ v.name.now ∷ us
behind_last vs v us = ap (λ ns. ns ++ us) (names_push vs v) ∙ append_assoc (vertex_names vs) (v.name.now ∷ []) us

module _ (all : List Text) (f : Text) where
  -- what stands nowhere is neither told of nor taken
  implied_put : (o : Option (List Text × Detail)) (t b : Bool) (p : Option Vertex) (v : Vertex) → (b ≡ true → p ≡ None) → (b ≡ true → IsVertex all f false [] plain_detail v)
      → Merged all o t f p → Merged all o (t || (b || false)) f (option_or p (cond b (Some v) None))
  implied_put v0 v1 v2 v3 v4 v5 v6 v7 = grind (arith, common_steps, or-false)

  listed_put : (o : Option (List Text × Detail)) (t t' b : Bool) (p : Option Vertex) (e : List Text × Detail) (v : Vertex) → (b ≡ true → p ≡ None) → (b ≡ true → IsVertex all f true e.0 e.1 v)
      → (b ≡ false → t' ≡ t) → Merged all o t f p → Merged all (option_or o (cond b (Some e) None)) t' f (option_or p (cond b (Some v) None))
  listed_put v0 v1 v2 v3 v4 v5 v6 v7 v8 v9 v10 = grind (arith, common_steps)

-- ---- the next key implies a feature
module _ (vs : List Vertex) (ks : List (Bor Text)) (i : ℕ) (k : Bor Text) (v : Vertex) (inside : i < length ks) (is : k ≡ get_or ks i k) (named : v.name.now ≡ k.now)
    (up : Ascend (vertex_names vs ++ texts (drop i ks))) where
  left : texts (drop i ks) ≡ k.now ∷ texts (drop (i + 1) ks)
  left = ap texts (drop_more ks i k inside) ∙ ap (λ x. x.now ∷ texts (drop (i + 1) ks)) (sym is)

  pub next_in_order : Ascend (vertex_names (vs ++ v ∷ []) ++ texts (drop (i + 1) ks))
  next_in_order = subst Ascend (ap (λ ts. vertex_names vs ++ ts) left ∙ ap (λ n. vertex_names vs ++ n ∷ texts (drop (i + 1) ks)) (sym named) ∙ sym (behind_last vs v (texts (drop (i + 1) ks)))) up

  missing : vertex_at vs k.now ≡ None
  missing = vertex_missing vs k.now (behind (vertex_names vs) k.now (texts (drop (i + 1) ks)) (subst (λ ts. Ascend (vertex_names vs ++ ts)) left up))

  one_more : (f : Text) → is_one_of (texts (take (i + 1) ks)) f ≡ (is_one_of (texts (take i ks)) f || (bytes_eq f k.now || false))
  one_more f = ap (λ ts. is_one_of ts f) (taken_more (λ (t : Bor Text). t.now) ks i k k inside is) ∙ list_any-append (bytes_eq f) (texts (take i ks)) (k.now ∷ [])

  pub next_merged : (all : List Text) (told : Told) → ((f : Text) → v.name.now ≡ f → IsVertex all f false [] plain_detail v)
      → ((f : Text) → Merged all (lookup (bytes_eq f) told) (is_one_of (texts (take i ks)) f) f (vertex_at vs f))
      → (f : Text) → Merged all (lookup (bytes_eq f) told) (is_one_of (texts (take (i + 1) ks)) f) f (vertex_at (vs ++ v ∷ []) f)
  next_merged all told vertex h f =
      subst (λ t. Merged all (lookup (bytes_eq f) told) t f (vertex_at (vs ++ v ∷ []) f)) (sym (one_more f))
      (subst (Merged all (lookup (bytes_eq f) told) (is_one_of (texts (take i ks)) f || (bytes_eq f k.now || false)) f)
      (sym (vertex_push vs v f ∙ ap (λ n. option_or (vertex_at vs f) (cond (bytes_eq f n) (Some v) None)) named))
      (implied_put all f (lookup (bytes_eq f) told) (is_one_of (texts (take i ks)) f) (bytes_eq f k.now) (vertex_at vs f) v
      (λ same. subst (λ n. vertex_at vs n ≡ None) (sym ((bytes_eq-Decides f k.now).0 same)) missing)
      (λ same. vertex f (named ∙ sym ((bytes_eq-Decides f k.now).0 same)))
      (h f)))

-- ---- a listed feature is put behind those that are merged
module _ (vs : List Vertex) (v : Vertex) (n : Text) (named : v.name.now ≡ n) (us : List Text) (up : Ascend (vertex_names vs ++ n ∷ us)) where
  pub last_in_order : Ascend (vertex_names (vs ++ v ∷ []) ++ us)
  last_in_order = subst Ascend (ap (λ m. vertex_names vs ++ m ∷ us) (sym named) ∙ sym (behind_last vs v us)) up

  nowhere : vertex_at vs n ≡ None
  nowhere = vertex_missing vs n (behind (vertex_names vs) n us up)

  pub listed_merged : (all : List Text) (told : Told) (e : List Text × Detail) (old new : List Text) → ((f : Text) → bytes_eq f n ≡ false → is_one_of new f ≡ is_one_of old f) → IsVertex all n true e.0 e.1 v
      → ((f : Text) → Merged all (lookup (bytes_eq f) told) (is_one_of old f) f (vertex_at vs f))
      → (f : Text) → Merged all (lookup (bytes_eq f) (told ++ (n, e) ∷ [])) (is_one_of new f) f (vertex_at (vs ++ v ∷ []) f)
  listed_merged all told e old new same vertex h f =
      subst (λ o. Merged all o (is_one_of new f) f (vertex_at (vs ++ v ∷ []) f)) (sym (lookup_push f told n e))
      (subst (Merged all (option_or (lookup (bytes_eq f) told) (cond (bytes_eq f n) (Some e) None)) (is_one_of new f) f)
      (sym (vertex_push vs v f ∙ ap (λ m. option_or (vertex_at vs f) (cond (bytes_eq f m) (Some v) None)) named))
      (listed_put all f (lookup (bytes_eq f) told) (is_one_of old f) (is_one_of new f) (bytes_eq f n) (vertex_at vs f) e v
      (λ here. subst (λ m. vertex_at vs m ≡ None) (sym ((bytes_eq-Decides f n).0 here)) nowhere)
      (λ here. subst (λ m. IsVertex all m true e.0 e.1 v) (sym ((bytes_eq-Decides f n).0 here)) vertex)
      (same f) (h f)))

-- ---- a key of the name is passed over
module _ (ns : List Text) (n : Text) (ks : List (Bor Text)) (i : ℕ) (below : Ascend (ns ++ n ∷ [])) where
  pub none_left : length ks ≤ i → Ascend (ns ++ n ∷ texts (drop i ks))
  none_left past = subst (λ ts. Ascend (ns ++ n ∷ texts ts)) (sym (drop_all i ks past)) below

  module _ (k : Bor Text) (inside : i < length ks) (is : k ≡ get_or ks i k) (up : Ascend (ns ++ texts (drop i ks))) where
    left_from : texts (drop i ks) ≡ k.now ∷ texts (drop (i + 1) ks)
    left_from = ap texts (drop_more ks i k inside) ∙ ap (λ x. x.now ∷ texts (drop (i + 1) ks)) (sym is)

    up_from : Ascend (ns ++ k.now ∷ texts (drop (i + 1) ks))
    up_from = subst (λ ts. Ascend (ns ++ ts)) left_from up

    pub same_left : k.now ≡ n → Ascend (ns ++ n ∷ texts (drop (i + 1) ks))
    same_left same = subst (λ m. Ascend (ns ++ m ∷ texts (drop (i + 1) ks))) same up_from

    pub same_taken : k.now ≡ n → (f : Text) → bytes_eq f n ≡ false → is_one_of (texts (take (i + 1) ks)) f ≡ is_one_of (texts (take i ks)) f
    same_taken same f off =
        ap (λ ts. is_one_of ts f) (taken_more (λ (t : Bor Text). t.now) ks i k k inside is) ∙ list_any-append (bytes_eq f) (texts (take i ks)) (k.now ∷ [])
        ∙ ap (λ b. is_one_of (texts (take i ks)) f || (b || false)) (ap (bytes_eq f) same ∙ off) ∙ or-false _

    pub other_left : is_below k.now n ≡ false → (k.now ≡ n → ⊥) → Ascend (ns ++ n ∷ texts (drop i ks))
    other_left not_below apart = joined_ascend ns n (texts (drop i ks)) below
        (subst (λ ts. Ascend (n ∷ ts)) (sym left_from) (put_first n (k.now ∷ texts (drop (i + 1) ks))
        (λ y there. lower n k.now (texts (drop (i + 1) ks)) (later_ascend ns (k.now ∷ texts (drop (i + 1) ks)) up_from) (strictly_above k.now n not_below apart) y there)
        (later_ascend ns (k.now ∷ texts (drop (i + 1) ks)) up_from)))

-- what is below a bound that isn't reached yet
pub bound_then : (ns : List Text) (k b : Text) (us : List Text) → Ascend (ns ++ k ∷ us) → Below k b → Ascend ((ns ++ k ∷ []) ++ b ∷ [])
bound_then ns k b us up below = subst Ascend (sym (append_assoc ns (k ∷ []) (b ∷ [])))
    (joined_ascend ns k (b ∷ []) (earlier_ascend (ns ++ k ∷ []) us (subst Ascend (sym (append_assoc ns (k ∷ []) us)) up)) (two_ascend k b below))

-- ---- listings, one after another
names_told : (ls : List Listing) → map (λ e. e.0) (told_of ls) ≡ listing_names ls
names_told [] = refl
names_told (l ∷ ls) = ap (λ ns. l.name.now ∷ ns) (names_told ls)

module _ (ls : List Listing) (i : ℕ) (l : Listing) (inside : i < length ls) (is : l ≡ get_or ls i l) where
  listings_left : drop i ls ≡ l ∷ drop (i + 1) ls
  listings_left = drop_more ls i l inside ∙ ap (λ x. x ∷ drop (i + 1) ls) (sym is)

  pub names_left : listing_names (drop i ls) ≡ l.name.now ∷ listing_names (drop (i + 1) ls)
  names_left = ap listing_names listings_left

  pub texts_left : texts_in (listed_of (drop i ls)) ≡ map string_bytes l.actions.now ++ texts_in (listed_of (drop (i + 1) ls))
  texts_left = ap (λ xs. texts_in (listed_of xs)) listings_left

  pub told_more : (told : Told) → (told ++ told_of (take i ls)) ++ told_of (l ∷ []) ≡ told ++ told_of (take (i + 1) ls)
  told_more told = append_assoc told (told_of (take i ls)) (told_of (l ∷ [])) ∙ ap (λ ts. told ++ ts)
      (sym (taken_more (λ (q : Listing). (q.name.now, (map string_bytes q.actions.now, detail_in q.detail))) ls i l l inside is))

  pub texts_put : texts_in (listed_of (take (i + 1) ls)) ≡ texts_in (listed_of (take i ls)) ++ map string_bytes l.actions.now
  texts_put =
      ap texts_in (taken_more (λ (q : Listing). (q.name.now, map string_bytes q.actions.now)) ls i l l inside is)
      ∙ flat_map-append (λ (e : Text × List Text). e.1) (listed_of (take i ls)) ((l.name.now, map string_bytes l.actions.now) ∷ [])
      ∙ ap (λ ts. texts_in (listed_of (take i ls)) ++ ts) (append-nil (map string_bytes l.actions.now))

  pub texts_taken : length (texts_in (listed_of (take (i + 1) ls))) ≡ length (texts_in (listed_of (take i ls))) + length l.actions.now
  texts_taken =
      ap length texts_put ∙ length-append (texts_in (listed_of (take i ls))) (map string_bytes l.actions.now)
      ∙ ap (λ n. length (texts_in (listed_of (take i ls))) + n) (length-map l.actions.now string_bytes)

pub texts_apart : (a b : List Listing) → texts_in (listed_of (a ++ b)) ≡ texts_in (listed_of a) ++ texts_in (listed_of b)
texts_apart a b =
    ap texts_in (map-append (λ (q : Listing). (q.name.now, map string_bytes q.actions.now)) a b)
    ∙ flat_map-append (λ (e : Text × List Text). e.1) (listed_of a) (listed_of b)

pub texts_split : (i : ℕ) (ls : List Listing) → texts_in (listed_of ls) ≡ texts_in (listed_of (take i ls)) ++ texts_in (listed_of (drop i ls))
texts_split i ls = ap (λ xs. texts_in (listed_of xs)) (sym (take-append-drop i ls)) ∙ texts_apart (take i ls) (drop i ls)

-- ---- keys that entries offer
-- one more key
pub has_more : (new old : Vec (Bor Text) Global) (t : Bor Text) → new.items ≡ old.items ++ t ∷ [] → (k : Text) → has_key new k ≡ (has_key old k || bytes_eq k t.now)
has_more v0 v1 v2 v3 v4 = search (rules, map_push, list_any-append, or-false)

-- one entry offers its key, if any
pub offered_one : (reserved : Text → Bool) (e : Entry) (q : Text) → is_offered reserved (e ∷ []) q ≡ cond (is_offered_alone reserved e) (bytes_eq q e.key) false
offered_one reserved e q = grind (arith, common_steps, bytes_eq_sym, bytes_eq-Decides)

-- what an index past the end reads
abbrev pub no_text : Bor Text
no_text = record { ref_ptr = (0, 0); now = [] }

-- ---- the vertex of a name
pub vertex_here : (vs : List Vertex) (f : Text) (i : ℕ) (d : Vertex) → Ascend (vertex_names vs) → i < length vs → nth_text (vertex_names vs) i ≡ f → vertex_at vs f ≡ Some (get_or vs i d)
vertex_here vs f i d up inside is = ap (vertex_at vs) (sym is ∙ get_or-map (λ (v : Vertex). v.name.now) vs i d [] inside) ∙ found_here (λ (v : Vertex). v.name.now) vs i d up inside

-- ---- where `default` comes among listings
abbrev default_text : Text
default_text = codes "default"

module _ (ls first rest : List Listing) (i : ℕ) (parts : ls ≡ first ++ rest) (many : length first ≡ i) (up : Ascend (listing_names ls)) (within : i ≤ length ls)
    (point : IsPartitionedBy (λ (l : Listing). is_below l.name.now default_text) ls
    → IsPartitionPoint (λ (l : Listing). is_below l.name.now default_text ≡ true) (λ (l : Listing). is_below l.name.now default_text ≡ false) ls i) where
  abbrev earlier : List Text
  earlier = listing_names first

  names_parts : listing_names ls ≡ earlier ++ listing_names rest
  names_parts = ap listing_names parts ∙ map-append (λ (l : Listing). l.name.now) first rest

  many_earlier : length earlier ≡ i
  many_earlier = length-map first (λ (l : Listing). l.name.now) ∙ many

  up_split : Ascend (earlier ++ listing_names rest)
  up_split = subst Ascend names_parts up

  earlier_below : (y : Text) → Among earlier y → Below y default_text
  earlier_below y there =
      let k = at_among earlier y [] there in
      let less : k.0 < i = (let inside = k.1 in omega (arith, inside, many_earlier)) in
      let inside : k.0 < length earlier = k.1 in
      subst (λ x. Below x default_text)
      (ap (λ xs. get_or xs k.0 []) names_parts ∙ get_or_append_left earlier (listing_names rest) [] k.0 inside ∙ k.2)
      (before (λ (l : Listing). l.name.now) ls default_text up i within point k.0 less)

  pub default_last : Ascend (earlier ++ default_text ∷ [])
  default_last = last_ascends earlier default_text (earlier_ascend earlier (listing_names rest) up_split) earlier_below

  between_from : (us : List Listing) → rest ≡ us → Ascend (earlier ++ (told_names (default_before us) ++ listing_names us))
  between_from [] is = default_last
  between_from (l ∷ later) is = go (bytes_eq l.name.now default_text) refl
    where
      up_here : Ascend (earlier ++ l.name.now ∷ listing_names later)
      up_here = subst (λ xs. Ascend (earlier ++ listing_names xs)) is up_split

      names_here : listing_names ls ≡ earlier ++ l.name.now ∷ listing_names later
      names_here = names_parts ∙ ap (λ xs. earlier ++ listing_names xs) is

      inside : i < length ls
      inside =
          let long : length (listing_names ls) ≡ length ls = length-map ls (λ (q : Listing). q.name.now) in
          let sum : length (listing_names ls) ≡ length earlier + length (l.name.now ∷ listing_names later) = ap length names_here ∙ length-append earlier (l.name.now ∷ listing_names later) in
          omega (arith, long, sum, many_earlier)

      named : nth_text (listing_names ls) i ≡ l.name.now
      named = ap (λ xs. nth_text xs i) names_here ∙ get_or_at earlier l.name.now (listing_names later) [] i many_earlier

      go : (b : Bool) → bytes_eq l.name.now default_text ≡ b → Ascend (earlier ++ (told_names (cond b [] ((default_text, ([], plain_detail)) ∷ [])) ++ l.name.now ∷ listing_names later))
      go true same = up_here
      go false apart =
          let after = later_ascend earlier (l.name.now ∷ listing_names later) up_here in
          let over : Below default_text l.name.now = strictly_above l.name.now default_text
          (sym (ap (λ x. is_below x default_text) named) ∙ from (λ (q : Listing). q.name.now) ls default_text up i within point i (omega arith) inside)
          (λ same. false≢true (sym apart ∙ (bytes_eq-Decides l.name.now default_text).1 same)) in
          joined_ascend earlier default_text (l.name.now ∷ listing_names later) default_last
          (put_first default_text (l.name.now ∷ listing_names later) (λ y there. lower default_text l.name.now (listing_names later) after over y there) after)

  pub default_between : Ascend (earlier ++ (told_names (default_before rest) ++ listing_names rest))
  default_between = between_from rest refl

-- ---- a listing is merged: `mid` once keys below its name are, `later` once the key of its name is passed over, `new` once it is put
module _ (vs new : List Vertex) (v : Vertex) (n : Text) (put : new ≡ vs ++ v ∷ []) (named : v.name.now ≡ n) where
  pub put_in_order : (us : List Text) → Ascend (vertex_names vs ++ n ∷ us) → Ascend (vertex_names new ++ us)
  put_in_order us up = subst (λ xs. Ascend (vertex_names xs ++ us)) (sym put) (last_in_order vs v n named us up)

  pub put_below : (old : List Vertex) → Ascend (vertex_names vs ++ n ∷ []) → (us : List Text) → Ascend (vertex_names old ++ n ∷ us) → Ascend (vertex_names new ++ us)
  put_below old up us over = put_in_order us (joined_ascend (vertex_names vs) n us up (later_ascend (vertex_names old) (n ∷ us) over))

  pub put_merged : (us : List Text) → Ascend (vertex_names vs ++ n ∷ us) → (all : List Text) (told : Told) (e : List Text × Detail) (old taken : List Text)
      → ((f : Text) → bytes_eq f n ≡ false → is_one_of taken f ≡ is_one_of old f) → IsVertex all n true e.0 e.1 v
      → ((f : Text) → Merged all (lookup (bytes_eq f) told) (is_one_of old f) f (vertex_at vs f))
      → (f : Text) → Merged all (lookup (bytes_eq f) (told ++ (n, e) ∷ [])) (is_one_of taken f) f (vertex_at new f)
  put_merged us up all told e old taken same vertex h f = subst (λ xs. Merged all (lookup (bytes_eq f) (told ++ (n, e) ∷ [])) (is_one_of taken f) f (vertex_at xs f)) (sym put)
      (listed_merged vs v n named us up all told e old taken same vertex h f)

-- the vertex of a listing, whose texts stand at s
pub listing_vertex : (all : List Text) (l : Listing) (s : ℕ) (v : Vertex) → v.name.now ≡ l.name.now → v.is_listed ≡ true → v.items.start ≡ s → v.items.end ≡ s + length l.actions.now → detail_in v.detail ≡ detail_in l.detail
    → StandAt all s (map string_bytes l.actions.now) → IsVertex all l.name.now true (map string_bytes l.actions.now) (detail_in l.detail) v
listing_vertex all l s v named on start ends detail stand = record {
  name = named;
  is_listed = on;
  items = record {
    stand = subst (λ p. StandAt all p (map string_bytes l.actions.now)) (sym start) stand;
    ends = ends ∙ ap₂ (λ p q. p + q) (sym start) (sym (length-map l.actions.now string_bytes));
  };
  detail = detail;
}

-- ---- listings, each of which is merged in its turn
module _ (ls : List Listing) (i : ℕ) (l : Listing) (inside : i < length ls) (is : l ≡ get_or ls i l) where
  pub next_listing : (ns : List Text) → Ascend (ns ++ (listing_names (drop i ls) ++ [])) → Ascend (ns ++ l.name.now ∷ [])
  next_listing ns up = earlier_ascend (ns ++ l.name.now ∷ []) (listing_names (drop (i + 1) ls) ++ [])
      (subst Ascend (ap (λ xs. ns ++ (xs ++ [])) (names_left ls i l inside is) ∙ sym (append_assoc ns (l.name.now ∷ []) (listing_names (drop (i + 1) ls) ++ []))) up)

  texts_parts : texts_in (listed_of ls) ≡ texts_in (listed_of (take i ls)) ++ (map string_bytes l.actions.now ++ texts_in (listed_of (drop (i + 1) ls)))
  texts_parts = texts_split i ls ∙ ap (λ ts. texts_in (listed_of (take i ls)) ++ ts) (texts_left ls i l inside is)

  pub texts_count : length (texts_in (listed_of ls)) ≡ length (texts_in (listed_of (take i ls))) + (length l.actions.now + length (texts_in (listed_of (drop (i + 1) ls))))
  texts_count =
      ap length texts_parts
      ∙ length-append (texts_in (listed_of (take i ls))) (map string_bytes l.actions.now ++ texts_in (listed_of (drop (i + 1) ls)))
      ∙ ap (λ n. length (texts_in (listed_of (take i ls))) + n)
      (length-append (map string_bytes l.actions.now) (texts_in (listed_of (drop (i + 1) ls))) ∙ ap (λ n. n + length (texts_in (listed_of (drop (i + 1) ls)))) (length-map l.actions.now string_bytes))

  pub listing_stands : (all : List Text) (first here : ℕ) → here ≡ first + length (texts_in (listed_of (take i ls))) → StandAt all first (texts_in (listed_of ls)) → StandAt all here (map string_bytes l.actions.now)
  listing_stands all first here at h = subst (λ p. StandAt all p (map string_bytes l.actions.now)) (sym at)
      (first_stand all (first + length (texts_in (listed_of (take i ls)))) (map string_bytes l.actions.now) (texts_in (listed_of (drop (i + 1) ls)))
      (rest_stand all first (texts_in (listed_of (take i ls))) (map string_bytes l.actions.now ++ texts_in (listed_of (drop (i + 1) ls))) (subst (StandAt all first) texts_parts h)))

pub none_after : (ns : List Text) (ls : List Listing) (i : ℕ) (us : List Text) → length ls ≤ i → Ascend (ns ++ (listing_names (drop i ls) ++ us)) → Ascend (ns ++ us)
none_after ns ls i us past up = subst (λ xs. Ascend (ns ++ (listing_names xs ++ us))) (drop_all i ls past) up

-- ---- up to a bound
pub next_below : (bound : Option (Bor Text)) (vs new : List Vertex) (ks : List (Bor Text)) (i : ℕ) → i < length ks → Ascend (vertex_names vs ++ texts (drop i ks))
    → vertex_names new ≡ vertex_names vs ++ nth_text (texts ks) i ∷ [] → option_map_or (λ b. is_below (get_or ks i no_text).now b.now) bound true ≡ true
    → IfSome bound (λ b. Ascend (vertex_names new ++ b.now ∷ []))
next_below None vs new ks i inside up names within = tt
next_below (Some b) vs new ks i inside up names within =
    let k = get_or ks i no_text in
    subst (λ ns. Ascend (ns ++ b.now ∷ [])) (sym (names ∙ ap (λ n. vertex_names vs ++ n ∷ []) (get_or-map (λ (t : Bor Text). t.now) ks i no_text [] inside)))
    (bound_then (vertex_names vs) k.now b.now (texts (drop (i + 1) ks)) (subst (λ ts. Ascend (vertex_names vs ++ ts)) (ap texts (drop_more ks i no_text inside)) up) within)
