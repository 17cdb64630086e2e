-- Members that are put in order stand in their order.
use Rattle.std.proofs.Common.{Greater, Less, List, Option, None, Some, [], ap, append-nil, append_assoc, map, nat_cmp, refl, subst, sym, ◌++◌, ◌∙◌, ◌∷◌, ◌≡◌}
use Rattle.std.proofs.lemmas.Cmp.{nat_list_cmp_total}
use Rattle.std.specs.Cmp.Lexicographic.{slice_cmp}
use Rattle.std.specs.List.{AllByRecursion, flat_map}
use Rattle.std.specs.Option.{option_map_or}
use Rattle.std.specs.List.Sorted.{IsStrictlySortedBy}
use Rattle.std.specs.Ordering.{ordering_reverse}
use Rattle.serde_json.specs.Data.{Data, member, no_members, put}
use Rattle.cargo_toml.specs.Action.{Text}
use Rattle.cargo_toml_tools.specs.IndexEntries.{with_rows}
use Rattle.cargo_toml_answers.proofs.Adding.{Row, members_in}

-- each name is below those after it
abbrev pub Ascend : List Row → Type 0
Ascend rs = IsStrictlySortedBy (slice_cmp nat_cmp) (map (λ r. r.0) rs)

below_middle : (first : Row) (rs : List Row) (r : Row) (more : List Row) → AllByRecursion (λ y. slice_cmp nat_cmp first.0 y ≡ Less) (map (λ q. q.0) (rs ++ r ∷ more)) → slice_cmp nat_cmp first.0 r.0 ≡ Less
below_middle first [] r more h = h.0
below_middle first (q ∷ rs) r more h = below_middle first rs r more h.1

put_last : (done : List Row) (r : Row) (more : List Row) → Ascend (done ++ r ∷ more) → put r.0 r.1 (members_in done) ≡ members_in (done ++ r ∷ [])
unfolding IsStrictlySortedBy
put_last [] r more h = refl
put_last (first ∷ done) r more h =
    let above : slice_cmp nat_cmp r.0 first.0 ≡ Greater = nat_list_cmp_total.antisymm r.0 first.0 ∙ ap ordering_reverse (below_middle first done r more h.0) in
    rw above (ap (member first.0 first.1) (put_last done r more h.1))

put_all : (done rs : List Row) → Ascend (done ++ rs) → with_rows rs (members_in done) ≡ members_in (done ++ rs)
put_all done [] h = ap members_in (sym (append-nil done))
put_all done (r ∷ rs) h =
    ap (with_rows rs) (put_last done r rs h)
    ∙ put_all (done ++ r ∷ []) rs (subst Ascend (sym (append_assoc done (r ∷ []) rs)) h)
    ∙ ap members_in (append_assoc done (r ∷ []) rs)

-- rows in order are put in their order
pub rows_in_place : (rs : List Row) → Ascend rs → with_rows rs no_members ≡ members_in rs
rows_in_place rs h = put_all [] rs h

-- rows of what has its names in order
module _ {A : Type 0} (name : A → Text) (value : A → Data) where
  below_rows : (x : Text) (es : List A) → AllByRecursion (λ y. slice_cmp nat_cmp x (name y) ≡ Less) es
      → AllByRecursion (λ y. slice_cmp nat_cmp x y ≡ Less) (map (λ (r : Row). r.0) (map (λ (e : A). (name e, value e)) es))
  below_rows x [] h = tt
  below_rows x (e ∷ es) h = (h.0, below_rows x es h.1)

  pub rows_ascend : (es : List A) → IsStrictlySortedBy (λ x y. slice_cmp nat_cmp (name x) (name y)) es → Ascend (map (λ e. (name e, value e)) es)
  unfolding IsStrictlySortedBy
  rows_ascend [] h = tt
  rows_ascend (e ∷ es) h = (below_rows (name e) es h.0, rows_ascend es h.1)

-- the same of keys, some of which have a value
module _ {A X : Type 0} (name : A → Text) (json : X → Data) (at : Text → Option X) where
  abbrev row : A → List Row
  row k = option_map_or (λ x. (name k, json x) ∷ []) (at (name k)) []

  below_some : (x n : Text) (o : Option X) (rest : List Row) → slice_cmp nat_cmp x n ≡ Less → AllByRecursion (λ y. slice_cmp nat_cmp x y ≡ Less) (map (λ (r : Row). r.0) rest)
      → AllByRecursion (λ y. slice_cmp nat_cmp x y ≡ Less) (map (λ (r : Row). r.0) (option_map_or (λ v. (n, json v) ∷ []) o [] ++ rest))
  below_some x n None rest first h = h
  below_some x n (Some v) rest first h = (first, h)

  below_found : (x : Text) (ks : List A) → AllByRecursion (λ y. slice_cmp nat_cmp x (name y) ≡ Less) ks → AllByRecursion (λ y. slice_cmp nat_cmp x y ≡ Less) (map (λ (r : Row). r.0) (flat_map row ks))
  below_found x [] h = tt
  below_found x (k ∷ ks) h = below_some x (name k) (at (name k)) (flat_map row ks) h.0 (below_found x ks h.1)

  some_ascends : (n : Text) (o : Option X) (rest : List Row) → AllByRecursion (λ y. slice_cmp nat_cmp n y ≡ Less) (map (λ (r : Row). r.0) rest) → Ascend rest
      → Ascend (option_map_or (λ v. (n, json v) ∷ []) o [] ++ rest)
  unfolding IsStrictlySortedBy
  some_ascends n None rest below h = h
  some_ascends n (Some v) rest below h = (below, h)

  pub found_ascend : (ks : List A) → IsStrictlySortedBy (λ x y. slice_cmp nat_cmp (name x) (name y)) ks → Ascend (flat_map row ks)
  unfolding IsStrictlySortedBy
  found_ascend [] h = tt
  found_ascend (k ∷ ks) h = some_ascends (name k) (at (name k)) (flat_map row ks) (below_found (name k) ks h.0) (found_ascend ks h.1)

-- keys in order, as those of entries
module _ {K X : Type 0} (name : K → Text) where
  below_keys : (k : K) (es : List (K × X)) → AllByRecursion (λ y. slice_cmp nat_cmp (name k) (name y) ≡ Less) (map (λ e. e.0) es) → AllByRecursion (λ y. slice_cmp nat_cmp (name k) (name y.0) ≡ Less) es
  below_keys k [] h = tt
  below_keys k (e ∷ es) h = (h.0, below_keys k es h.1)

  pub entries_ascend : (es : List (K × X)) → IsStrictlySortedBy (λ x y. slice_cmp nat_cmp (name x) (name y)) (map (λ e. e.0) es) → IsStrictlySortedBy (λ x y. slice_cmp nat_cmp (name x.0) (name y.0)) es
  unfolding IsStrictlySortedBy
  entries_ascend [] h = tt
  entries_ascend (e ∷ es) h = (below_keys e.0 es h.0, entries_ascend es h.1)
