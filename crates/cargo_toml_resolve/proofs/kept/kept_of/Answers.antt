-- From what stands in places to what is kept by name.
use Rattle.cargo_toml_resolve.proofs.Cited.{AreHashed, AreKept, ArePlaced, Ascend, BTreeSet, Bool, Bor, Feature, Graph, HasTextsOf, HashMap, HaveOwnSets, IfSome, IsKept, IsKeptFeature, IsSome, IsSomeAnd, IsTextOf, IsTrue, IsWanted, List, None, Option, RedirectsTo, Shows, Some, StandFor, Table, Text, Walked, [], ap, arith, by_true, deeds_of, false, feature_at}
use Rattle.cargo_toml_resolve.proofs.Cited.{inl, is_below, is_some, length, map, nth_text, option_map, option_map_or, own_bins, pass_all, row_items, said_of, set_has, slice_get, slice_get_within, subst, sym, table_among, texts_now, true, unremoved, value_at, ℕ, ◌<◌, ◌↔◌, ◌∙◌, ◌≡◌}
use Rattle.cargo_toml_resolve.proofs.InPlace.{found_at, name_in, stands_in, alike_len, alike_place, names_alike}
use Rattle.cargo_toml_resolve.proofs.{Answered.named_by, Answered.resolved_is, ByFilter.flag_at, ByFilter.flag_is, ByFilter.own_table, Learning.if_ok_weaker}
use Rattle.cargo_toml_resolve.proofs.Answered as numbered
use Rattle.cargo_toml_resolve.proofs.kept.kept_of.Goals as goal

none_unless : {X : Type 0} (o : Option X) → ¬ IsSome o → o ≡ None
none_unless o h = grind arith

some_there : {X : Type 0} (o : Option X) (P : X → Type 0) → IsSomeAnd o P → IsSome o
some_there o P h = grind arith

if_there : {X : Type 0} (o : Option X) (P : X → Type 0) → (IsSome o → IsSomeAnd o P) → IfSome o P
if_there o P h = grind arith

exactly : {X : Type 0} (o : Option X) (x : X) → IsSomeAnd o (λ y. y ≡ x) → o ≡ Some x
exactly o x h = grind arith

and_so : {X : Type 0} (o : Option X) (P Q : X → Type 0) → ((x : X) → P x → Q x) → IsSomeAnd o P → IsSomeAnd o Q
and_so o P Q weaker h = grind arith

module _ (t : Table) (removed : Text → Bool) (old new : List Feature) (g : Graph) (w : Walked) (shown : Shows g t removed old) (p : ArePlaced g old new w) where
  abbrev R : Text → Type 0
  R v = IsTrue (removed v)

  abbrev texts : List Text
  texts = texts_now w.texts.items

  abbrev flags : List Bool
  flags = w.flags.items

  stand : StandFor t removed old texts g.edges g.names flags
  stand = subst (λ x. StandFor t removed old (texts_now x.items) g.edges g.names w.flags.items) (sym p.texts)
      (subst (λ x. StandFor t removed old (texts_now g.texts.items) g.edges g.names x.items) (sym p.flags) shown)

  fits : (i : ℕ) → i < length g.edges → i < length texts
  fits i lt = let c = stand.numbered.count in omega (arith, c, lt)

  long : length new ≡ length g.edges
  long = alike_len said_of old new p.same ∙ sym stand.count

  -- the number of what stands in a place
  number_of : (i : ℕ) (v : Feature) → slice_get new i ≡ Some v → i < length g.edges
  number_of i v at = subst (λ n. i < n) long (slice_get_within new i v at)

  vertex_place : (i : ℕ) → i < length g.edges → i < length old
  vertex_place i lt = subst (λ n. i < n) stand.count lt

  -- what stands in a place has the text of its number as its name
  name_there : (i : ℕ) (v : Feature) → slice_get new i ≡ Some v → v.key.now ≡ nth_text texts i
  name_there i v at = sym (name_in new i v at) ∙ ap (λ ks. nth_text ks i) (names_alike said_of old new p.same) ∙ sym (stand.vertices i (vertex_place i (number_of i v at)))

  -- a removed feature whose redirect isn't marked as moved names it
  own_sets : HaveOwnSets w new
  own_sets r v on off at x =
      let lt = number_of r v at in
      let l = stand.numbered.labels r x lt (inl on) in
      let named : t.names (nth_text texts r) x ≡ set_has v.enables_features x = sym (named_by t removed old texts g.edges g.names flags stand r lt x)
      ∙ ap (λ o. option_map_or (λ d. set_has d.0 x) o false) (sym (p.left r on) ∙ ap (option_map deeds_of) at) in
      subst (λ xs. IsTrue (set_has v.enables_features x) ↔ IsTextOf texts xs x) (sym (p.stays r off)) (λ y. l.0 (named ∙ y), λ n. sym named ∙ l.1 n)

  module _ {S : Type 0} (m : HashMap (Bor Text) Feature S) (hidden : HashMap (Bor Text) (BTreeSet (Bor Text)) S) (h : AreHashed new w (length new) m hidden) where
    held : (i : ℕ) (v : Feature) → slice_get new i ≡ Some v → IsWanted flags false i → value_at m v.key.now ≡ Some v
    held i v at off = exactly (value_at m v.key.now) v (h.kept.there i v (slice_get_within new i v at) at off)

    -- where a kept feature stands
    stands : (f : Text) → IsKept t R f → (i : ℕ) × (v : Feature) × (slice_get new i ≡ Some v) × IsWanted flags false i × (nth_text texts i ≡ f) × (value_at m f ≡ Some v)
    stands f k =
        let i = (stand.numbered.vertex f).0 k.0 in
        let off : IsWanted flags false i.0 = (numbered.unflagged t R texts g.edges g.names flags stand.numbered i.0 (fits i.0 i.1)).1 (λ r. k.1 (subst R i.2 r)) in
        let v = stands_in new i.0 (subst (λ n. i.0 < n) (sym long) i.1) in
        (i.0, v.0, v.1, off, i.2, subst (λ x. value_at m x ≡ Some v.0) (name_there i.0 v.0 v.1 ∙ i.2) (held i.0 v.0 v.1 off))

    kept_by_name : (f : Text) → IsKept t R f → IsSomeAnd (value_at m f) (IsKeptFeature t R f)
    kept_by_name f k =
        let s = stands f k in
        subst (λ o. IsSomeAnd o (IsKeptFeature t R f)) (sym s.5) (subst (λ x. IsKeptFeature t R x s.1) s.4 (p.kept t removed shown s.0 s.1 s.3 s.2))

    gone : (f : Text) → R f → value_at m f ≡ None
    gone f r = grind (arith, none_unless, number_of, name_there, numbered.unflagged, fits, h.kept.only f)

    missing : (f : Text) → ¬ IsTrue (t.has f) → value_at m f ≡ None
    missing f lacks = grind (arith, none_unless, number_of, name_there, h.kept.only f)

    own_by_name : (f : Text) → IfSome (value_at m f) (λ v. option_map said_of (feature_at old f) ≡ Some (said_of v))
    own_by_name f = if_there (value_at m f) (λ v. option_map said_of (feature_at old f) ≡ Some (said_of v)) (λ y.
        let o = h.kept.only f y in
        let lt = vertex_place o.0 (number_of o.0 o.1 o.2) in
        let found = ap (feature_at old) (sym o.4 ∙ name_there o.0 o.1 o.2 ∙ stand.vertices o.0 lt) ∙ found_at old stand.in_order o.0 lt in
        subst (λ x. IsSomeAnd x (λ v. option_map said_of (feature_at old f) ≡ Some (said_of v))) (sym (held o.0 o.1 o.2 o.3) ∙ ap (value_at m) o.4)
        (ap (option_map said_of) found ∙ sym (alike_place said_of old new p.same (λ q. q.0) o.0) ∙ ap (option_map said_of) o.2))

    -- where a removed feature stands
    hidden_stands : (r : Text) → R r → (i : ℕ) × (v : Feature) × (slice_get new i ≡ Some v) × IsWanted flags true i × (v.key.now ≡ r)
    hidden_stands r gone_now =
        let i = (stand.numbered.vertex r).0 (stand.numbered.removed r gone_now) in
        let v = stands_in new i.0 (subst (λ n. i.0 < n) (sym long) i.1) in
        (i.0, v.0, v.1, (stand.numbered.flagged i.0 (fits i.0 i.1)).1 (subst R (sym i.2) gone_now), name_there i.0 v.0 v.1 ∙ i.2)

    redirected : (r : Text) → is_some (value_at hidden r) ≡ removed r
    redirected r = by_true _ _ (
      λ y.
          let o = h.redirects.only r y in
          let lt = number_of o.0 o.1 o.2 in
          subst R (sym (name_there o.0 o.1 o.2) ∙ o.4) ((stand.numbered.flagged o.0 (fits o.0 lt)).0 o.3),
      λ y.
          let s = hidden_stands r y in
          let a = h.redirects.there s.0 s.1 (slice_get_within new s.0 s.1 s.2) s.2 s.3 in
          subst (λ n. IsSome (value_at hidden n)) s.4 (some_there (value_at hidden s.1.key.now) (HasTextsOf texts (row_items w.redirects s.0)) a),
    )

    redirects : (r : Text) → IfSome (value_at hidden r) (λ s. (x : Text) → IsTrue (set_has s x) ↔ RedirectsTo t R (λ a b. IsTrue (is_below a b)) r x)
    redirects r = if_there (value_at hidden r) (λ s. (x : Text) → IsTrue (set_has s x) ↔ RedirectsTo t R (λ a b. IsTrue (is_below a b)) r x) (λ y.
        let o = h.redirects.only r y in
        let lt = number_of o.0 o.1 o.2 in
        subst (λ n. IsSomeAnd (value_at hidden n) (λ s. (z : Text) → IsTrue (set_has s z) ↔ RedirectsTo t R (λ a b. IsTrue (is_below a b)) n z)) o.4
        (subst (λ n. IsSomeAnd (value_at hidden o.1.key.now) (λ s. (z : Text) → IsTrue (set_has s z) ↔ RedirectsTo t R (λ a b. IsTrue (is_below a b)) n z)) (sym (name_there o.0 o.1 o.2))
        (and_so (value_at hidden o.1.key.now) (HasTextsOf texts (row_items w.redirects o.0)) (λ s. (z : Text) → IsTrue (set_has s z) ↔ RedirectsTo t R (λ a b. IsTrue (is_below a b)) (nth_text texts o.0) z)
        (λ s has z. let are = p.redirects t removed shown o.0 z lt o.3 in (λ i. are.0 ((has z).0 i), λ d. (has z).1 (are.1 d)))
        (h.redirects.there o.0 o.1 (slice_get_within new o.0 o.1 o.2) o.2 o.3))))

    are_kept : AreKept t removed old m hidden
    are_kept =
        let bins = p.bins t removed shown in
        record {
          resolved = resolved_is t removed m kept_by_name gone missing;
          own = own_by_name;
          bins = record {
            order = bins.order;
            in_order = bins.in_order;
            lists = λ f k.
                let s = stands f k in
                ap (λ o. option_map_or (λ v. map (λ b. b.now) v.required_by_bins.items) o []) (s.5 ∙ sym s.2) ∙ bins.lists s.0 (slice_get_within new s.0 s.1 s.2) s.3 ∙ ap (pass_all bins.order (unremoved t) (own_bins old)) s.4;
          };
          redirected = redirected;
          redirects = redirects;
        }

pub hashed_apart-requires-clause-in_order : goal.hashed_apart-requires-clause-in_order
hashed_apart-requires-clause-in_order g c = subst Ascend (sym (names_alike said_of c.args.features.items c.remove.new.features.items c.in_ok-walked.ensures.same)) c.requires.in_order

pub hashed_apart-requires-clause-own : goal.hashed_apart-requires-clause-own
hashed_apart-requires-clause-own g c =
    let vs = c.args.features.items in
    own_sets (table_among vs) (flag_at vs c.args.flags.items) vs c.remove.new.features.items c.in_ok-graph.graph c.in_ok-walked.walked
    ((rw c.as_slice.ensures.value at c.in_ok-graph.ensures.numbered) (table_among vs) (flag_at vs c.args.flags.items) (own_table vs) (flag_is vs c.args.flags.items)) c.in_ok-walked.ensures

pub hashed_apart-requires-clause-count : goal.hashed_apart-requires-clause-count
hashed_apart-requires-clause-count g c = c.in_ok-walked.ensures.count ∙ sym (alike_len said_of c.args.features.items c.remove.new.features.items c.in_ok-walked.ensures.same)

pub returns : goal.returns
returns g c = if_ok_weaker c.hashed_apart.result _ _ (λ l hashed t removed same removed_is.
    are_kept t removed c.args.features.items c.remove.new.features.items c.in_ok-graph.graph c.in_ok-walked.walked
    ((rw c.as_slice.ensures.value at c.in_ok-graph.ensures.numbered) t removed same removed_is) c.in_ok-walked.ensures l.features l.hidden hashed) c.hashed_apart.ensures
