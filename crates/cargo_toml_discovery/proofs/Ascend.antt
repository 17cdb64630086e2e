-- Offers stand in the order of their names, and the walk gives what each offer gives by itself.
use Rattle.cargo_toml_discovery.proofs.Cited.{Answers, Bool, Edition, Equal, Greater, IsStrictlySortedBy, Less, List, Name, Named, NamesAscend, None, Offered, Option, Ordering, ProductMeaning, Some, [], and-false, and-true, ap, append-nil, append_assoc, bytes_eq, cond, cons_option, false, filter, found, has_offer, has_path, is_lt, is_path_of, is_source, last_product, last_waiting}
use Rattle.cargo_toml_discovery.proofs.Cited.{list_any, map, named_in, nat_cmp, nat_list_cmp_total, not, offer_of, offers, open_offer, option_to_list, product_among, product_for, product_lt, refl, slice_cmp, sorted_by, still_open, subst, sym, true, walk, with_extra, without, ◌&&◌, ◌++◌, ◌||◌, ◌∙◌, ◌∷◌, ◌≡◌}
use Rattle.cargo_toml_discovery.proofs.Unique.{AllAbove, Sorted}

abbrev less : Name → Name → Bool
less a b = is_lt (slice_cmp nat_cmp a b)

-- the file of each stands before this one
abbrev pub AllBefore : List Offered → Name → Type 0
AllBefore [] f = Unit {0}
AllBefore (q ∷ qs) f = (slice_cmp nat_cmp q.file f ≡ Less) × AllBefore qs f

abbrev pub files : List Offered → List Name
files os = map (λ o. o.file) os

abbrev rival : Offered → Offered → Bool
rival o q = bytes_eq q.name o.name && less q.file o.file

rivals-before : (o : Offered) (qs rest : List Offered) → AllBefore qs o.file → list_any (rival o) rest ≡ false → list_any (rival o) (qs ++ rest) ≡ has_offer qs o.name
rivals-before o [] rest h e = e
rivals-before o (q ∷ qs) rest h e =
    ap (λ (b : Bool). (bytes_eq q.name o.name && b) || list_any (rival o) (qs ++ rest)) (ap is_lt h.0)
    ∙ ap (λ (b : Bool). b || list_any (rival o) (qs ++ rest)) (and-true (bytes_eq q.name o.name))
    ∙ ap (λ (b : Bool). bytes_eq q.name o.name || b) (rivals-before o qs rest h.1 e)

not_less : (a b : Name) → slice_cmp nat_cmp a b ≡ Less → less b a ≡ false
not_less a b h = let e = nat_list_cmp_total.antisymm b a in rw (e, h) refl

rivals-after : (o : Offered) (qs : List Offered) → AllAbove o.file (files qs) → list_any (rival o) qs ≡ false
rivals-after o [] h = refl
rivals-after o (q ∷ qs) h =
    ap (λ (b : Bool). (bytes_eq q.name o.name && b) || list_any (rival o) qs) (not_less o.file q.file h.0)
    ∙ ap (λ (b : Bool). b || list_any (rival o) qs) (and-false (bytes_eq q.name o.name))
    ∙ rivals-after o qs h.1

not_own : (a : Name) (r : Ordering) → slice_cmp nat_cmp a a ≡ r → less a a ≡ false
not_own a Less e = not_less a a e
not_own a Equal e = ap is_lt e
not_own a Greater e = ap is_lt e

rivals : (o : Offered) (done os : List Offered) → AllBefore done o.file → AllAbove o.file (files os) → list_any (rival o) (done ++ o ∷ os) ≡ has_offer done o.name
rivals o done os h k = rivals-before o done (o ∷ os) h
    (ap (λ (b : Bool). (bytes_eq o.name o.name && b) || list_any (rival o) os) (not_own o.file (slice_cmp nat_cmp o.file o.file) refl)
    ∙ ap (λ (b : Bool). b || list_any (rival o) os) (and-false (bytes_eq o.name o.name)) ∙ rivals-after o os k)

before-push : (done : List Offered) (o q : Offered) → AllBefore done q.file → slice_cmp nat_cmp o.file q.file ≡ Less → AllBefore (done ++ o ∷ []) q.file
before-push [] o q h e = (e, tt)
before-push (p ∷ done) o q h e = (h.0, before-push done o q h.1 e)

-- each of the second list stands after each of the first
abbrev Apart : List Offered → List Offered → Type 0
Apart done [] = Unit {0}
Apart done (o ∷ os) = AllBefore done o.file × Apart done os

apart-push : (done : List Offered) (o : Offered) (os : List Offered) → Apart done os → AllAbove o.file (files os) → Apart (done ++ o ∷ []) os
apart-push done o [] h k = tt
apart-push done o (q ∷ os) h k = (before-push done o q h.0 k.0, apart-push done o os h.1 k.1)

apart-none : (os : List Offered) → Apart [] os
apart-none [] = tt
apart-none (o ∷ os) = (tt, apart-none os)

twice : (b : Bool) → cond {A = Option ProductMeaning} b None None ≡ None
twice true = refl
twice false = refl

named-push : (done : List Offered) (o : Offered) (n : Name) (x : Option ProductMeaning) → cond (bytes_eq o.name n) None (cond (has_offer done n) None x) ≡ cond (has_offer (done ++ o ∷ []) n) None x
named-push [] o n x = either (bytes_eq o.name n) x where
  either : (b : Bool) (x : Option ProductMeaning) → cond b None x ≡ cond (b || false) None x
  either true x = refl
  either false x = refl
named-push (q ∷ done) o n x = elim (bytes_eq q.name n) as (λ b. cond (bytes_eq o.name n) None (cond (b || has_offer done n) None x) ≡ cond (b || has_offer (done ++ o ∷ []) n) None x)
    [ true ↦ twice (bytes_eq o.name n) | false ↦ named-push done o n x ]

chosen : (b : Bool) (x : Option ProductMeaning) → cond b None x ≡ cond (not b) x None
chosen true x = refl
chosen false x = refl

module _ (edition : Edition) (ps : List ProductMeaning) where
  last-product : (done : List Offered) (w : Name → Option ProductMeaning) (x : Option Offered) → ((n : Name) → w n ≡ cond (has_offer done n) None (last_waiting ps n)) → walk edition w (option_to_list x) ≡ last_product edition ps done x
  last-product done w None h = refl
  last-product done w (Some o) h = ap (λ (p : Option ProductMeaning). product_for edition o p ∷ []) (h o.name)

  walk-each : (done os : List Offered) (w : Name → Option ProductMeaning) (x : Option Offered) → Apart done os → Sorted (files os) → ((n : Name) → w n ≡ cond (has_offer done n) None (last_waiting ps n)) →
      walk edition w (with_extra os x) ≡ map (λ o. product_among edition ps (done ++ os) o) os ++ last_product edition ps (done ++ os) x
  unfolding IsStrictlySortedBy
  walk-each done [] w x a up h = last-product done w x h ∙ ap (λ (os : List Offered). last_product edition ps os x) (simp append-nil)
  walk-each done (o ∷ os) w x a up h =
      let first : product_for edition o (w o.name) ≡ product_among edition ps (done ++ o ∷ os) o =
      ap (λ (x : Option ProductMeaning). product_for edition o x) (h o.name ∙ chosen (has_offer done o.name) (last_waiting ps o.name)
      ∙ ap (λ (b : Bool). cond (not b) (last_waiting ps o.name) None) (sym (rivals o done os a.0 up.0))) in
      let rest = walk-each (done ++ o ∷ []) os (without w o.name) x (apart-push done o os a.1 up.0) up.1
      (λ n. ap (λ (x : Option ProductMeaning). cond (bytes_eq o.name n) None x) (h n) ∙ named-push done o n (last_waiting ps n)) in
      let joined : (done ++ o ∷ []) ++ os ≡ done ++ o ∷ os = simp append_assoc in
      ap (λ (p : ProductMeaning). p ∷ walk edition (without w o.name) (with_extra os x)) first
      ∙ ap (λ (qs : List ProductMeaning). product_among edition ps (done ++ o ∷ os) o ∷ qs) (rest ∙ ap (λ (all : List Offered). map (λ o. product_among edition ps all o) os ++ last_product edition ps all x) joined)

  pub walk-set : (os : List Offered) (x : Option Offered) → Sorted (files os) → walk edition (last_waiting ps) (with_extra os x) ≡ map (λ o. product_among edition ps os o) os ++ last_product edition ps os x
  walk-set os x up = walk-each [] os (last_waiting ps) x (apart-none os) up (λ n. refl)

-- Offers stand in the order of their names.

abbrev FileIs : Name → Option Offered → Type 0
FileIs f None = Unit {0}
FileIs f (Some o) = o.file ≡ f

file-cond : (b : Bool) (f : Name) (r s : Option Offered) → FileIs f r → FileIs f s → FileIs f (cond b r s)
file-cond true f r s h k = h
file-cond false f r s h k = k

file-open : (taken : Name → Bool) (f : Name) (r : Option Offered) → FileIs f r → FileIs f (still_open taken r)
file-open taken f None h = tt
file-open taken f (Some o) h = file-cond (taken o.path) f None (Some o) tt h

file-offer : (folder : Name) (taken : Name → Bool) (e : Named) → FileIs e.name (open_offer folder taken e)
file-offer folder taken e = file-open taken e.name (offer_of folder e) (file-cond (is_source e.name) e.name _ _ refl (file-cond e.has_main e.name _ _ refl tt))

after-cons : (f g : Name) (r : Option Offered) (os : List Offered) → FileIs g r → slice_cmp nat_cmp f g ≡ Less → AllAbove f (files os) → AllAbove f (files (cons_option r os))
after-cons f g None os h e k = k
after-cons f g (Some o) os h e k = (ap (λ (t : Name). slice_cmp nat_cmp f t) h ∙ e, k)

all-after : (folder : Name) (taken : Name → Bool) (f : Name) (es : List Named) → AllAbove f (map (λ n. n.name) es) → AllAbove f (files (offers folder taken es))
all-after folder taken f [] h = tt
all-after folder taken f (e ∷ es) h = after-cons f e.name (open_offer folder taken e) (offers folder taken es) (file-offer folder taken e) h.0 (all-after folder taken f es h.1)

ascending-cons : (f : Name) (r : Option Offered) (os : List Offered) → FileIs f r → AllAbove f (files os) → Sorted (files os) → Sorted (files (cons_option r os))
unfolding IsStrictlySortedBy
ascending-cons f None os h k up = up
ascending-cons f (Some o) os h k up = (subst (λ (t : Name). AllAbove t (files os)) (sym h) k, up)

pub ascending-offers : (folder : Name) (taken : Name → Bool) (es : List Named) → NamesAscend es → Sorted (files (offers folder taken es))
unfolding IsStrictlySortedBy
ascending-offers folder taken [] h = tt
ascending-offers folder taken (e ∷ es) h = ascending-cons e.name (open_offer folder taken e) (offers folder taken es) (file-offer folder taken e) (all-after folder taken e.name es h.0) (ascending-offers folder taken es h.1)

-- offers, where the same paths are taken
open-same : (f g : Name → Bool) → ((t : Name) → f t ≡ g t) → (o : Option Offered) → still_open f o ≡ still_open g o
open-same f g h None = refl
open-same f g h (Some o) = ap (λ (b : Bool). cond b None (Some o)) (h o.path)

pub offers-same : (folder : Name) (f g : Name → Bool) → ((t : Name) → f t ≡ g t) → (es : List Named) → offers folder f es ≡ offers folder g es
offers-same folder f g h [] = refl
offers-same folder f g h (e ∷ es) =
    ap (λ (o : Option Offered). cons_option o (offers folder f es)) (open-same f g h (offer_of folder e))
    ∙ ap (λ (os : List Offered). cons_option (open_offer folder g e) os) (offers-same folder f g h es)

-- the walk gives what is found
pub walk-found : (edition : Edition) (folder : Name) (ps : List ProductMeaning) (es : List Named) (x : Option Offered) → NamesAscend es →
    sorted_by product_lt (filter has_path ps ++ walk edition (last_waiting ps) (with_extra (offers folder (is_path_of ps) es) x)) ≡ found edition folder ps es x
walk-found edition folder ps es x up =
    ap (λ (qs : List ProductMeaning). sorted_by product_lt (filter has_path ps ++ qs)) (walk-set edition ps (offers folder (is_path_of ps) es) x (ascending-offers folder (is_path_of ps) es up))

-- and so do the names that were answered
same-names : (ans : Answers) (folder : Name) (ns : List Name) →
    map (λ (e : Named). e.name) (map (named_in ans folder) ns) ≡ ns
same-names ans folder [] = refl
same-names ans folder (n ∷ ns) = ap (λ (ts : List Name). n ∷ ts) (same-names ans folder ns)

pub ascend-named : (ans : Answers) (folder : Name) (ns : List Name) → Sorted ns →
    NamesAscend (map (named_in ans folder) ns)
ascend-named ans folder ns h =
    subst (λ (ts : List Name). Sorted ts) (sym (same-names ans folder ns)) h

pub none-ascend : NamesAscend []
unfolding IsStrictlySortedBy
none-ascend = tt
