-- What features hold in their places once walks have been made and binaries are passed on.
use Rattle.cargo_toml_resolve.proofs.Cited.{AllTakeOver, Among, ArePassedAt, AreSameButBins, Ascend, Bool, Feature, FindsRedirects, HasNumber, HaveNoEnablers, IsKeptFeature, IsRedirect, IsTrue, IsWanted, KeepsName, Leads, List, RedirectsTo, Said, Some, StandFor, Table, Text, [], all_taken_out, among-either, among-first, among-second, ap, arith, ascending_last, ascending_once, below_one_way, bins_of, but_bins, by_true, cases_eq, common_steps, cond, deeds_of, false}
use Rattle.cargo_toml_resolve.proofs.Cited.{feature_at, inr, is_below, label_within, last_passes, length, list_any, map, nat_eq, none_ascend, nth_text, option_map, option_map_or, own_bins, pass_all, passed_below, refl, row_items, rules, set_has, slice_get, slice_get_within, slice_index_or, subst, suc, sym, texts_now, true, unremoved, unremoved_is, without_all, zero, ℕ, ◌++◌, ◌<◌, ◌↔◌, ◌∙◌, ◌∷◌, ◌≡◌, ◌≤◌}
use Rattle.cargo_toml_resolve.proofs.InPlace.{found_at, no_enabler, alike_at, alike_len, alike_place, stood, alike_too}
use Rattle.cargo_toml_resolve.proofs.{BinTurns.stands_true, BinTurns.true_stands, Answered.is_kept_feature}
use Rattle.cargo_toml_resolve.proofs.Answered as numbered
use Rattle.cargo_toml_resolve.proofs.removal.remove.Goals as goal

-- the texts of the flagged numbers below n
abbrev names_below : List Text → List Bool → ℕ → List Text
names_below texts flags zero = []
names_below texts flags (suc n) = cond (slice_index_or flags n false) (names_below texts flags n ++ nth_text texts n ∷ []) (names_below texts flags n)

abbrev StandsBelow : List Text → List Bool → ℕ → Text → Type 0
StandsBelow texts flags n v = (j : ℕ) × (j < n) × (nth_text texts j ≡ v) × IsWanted flags true j

one_more : (texts : List Text) (flags : List Bool) (n : ℕ) (v : Text) → Among (names_below texts flags n) v ↔ StandsBelow texts flags n v →
    Among (names_below texts flags (suc n)) v ↔ StandsBelow texts flags (suc n) v
one_more texts flags n v h = grind (arith, among-either, cases_eq, among-second, among-first)

named_below : (texts : List Text) (flags : List Bool) (n : ℕ) (v : Text) → Among (names_below texts flags n) v ↔ StandsBelow texts flags n v
named_below texts flags zero v = (λ i. absurd i, λ s. let lt = s.1 in absurd (omega (arith, lt)))
named_below texts flags (suc n) v = one_more texts flags n v (named_below texts flags n v)

module _ (t : Table) (removed : Text → Bool) (old : List Feature) (texts : List Text) (edges names rows : List (List ℕ)) (flags : List Bool) (stand : StandFor t removed old texts edges names flags)
    (redirects_are : (r : ℕ) (x : Text) → r < length edges → IsWanted flags true r → HasNumber texts (length texts) (Leads rows r) x ↔ RedirectsTo t (λ v. IsTrue (removed v)) (λ a b. IsTrue (is_below a b)) (nth_text texts r) x) where
  abbrev Gone : Text → Type 0
  Gone v = IsTrue (removed v)

  abbrev Below : Text → Text → Type 0
  Below a b = IsTrue (is_below a b)

  fits : (i : ℕ) → i < length edges → i < length texts
  fits i lt = let c = stand.numbered.count in omega (arith, c, lt)

  -- these names are removed, and below those that follow
  lower_there : (n : ℕ) → n < length edges → (v : Text) → Among (names_below texts flags n) v → Gone v × Below v (nth_text texts n)
  lower_there n lt v i = grind (arith, named_below, numbered.vertex_under)

  lower_back : (n : ℕ) → n < length edges → (v : Text) → Gone v × Below v (nth_text texts n) → Among (names_below texts flags n) v
  lower_back n lt v l =
      let k = (stand.numbered.vertex v).0 (stand.numbered.removed v l.0) in
      let u = (numbered.vertex_under t Gone texts edges names flags stand.numbered n lt k.0 k.1).1 (subst Gone (sym k.2) l.0, subst (λ w. Below w (nth_text texts n)) (sym k.2) l.1) in
      (named_below texts flags n v).1 (k.0, u.1, k.2, u.0)

  ascends_below : (n : ℕ) → n ≤ length edges → Ascend (names_below texts flags n)
  ascends_below zero le = none_ascend
  ascends_below (suc n) le = go (slice_index_or flags n false) (ascends_below n (omega (arith, le)))
    where
      go : (b : Bool) → Ascend (names_below texts flags n) → Ascend (cond b (names_below texts flags n ++ nth_text texts n ∷ []) (names_below texts flags n))
      go p up = grind (arith, ascending_last, lower_there)

  there_below : (n : ℕ) → n < length edges → (v : Text) → Among (names_below texts flags n) v → IsTrue (t.has v)
  there_below n lt v i = stand.numbered.removed v (lower_there n lt v i).0

  abbrev Earlier : ℕ → Text → Type 0
  Earlier n v = Among (names_below texts flags n) v

  abbrev Lower : ℕ → Text → Type 0
  Lower n v = Gone v × Below v (nth_text texts n)

  at_its_turn : (n : ℕ) → n < length edges → (x : Text) → IsTrue ((without_all (names_below texts flags n) (unremoved t)).table.names (nth_text texts n) x) ↔ KeepsName t (Earlier n) (nth_text texts n) x
  at_its_turn n lt x =
      let up = ascends_below n (omega (arith, lt)) in
      (all_taken_out t (names_below texts flags n) (unremoved t) (unremoved_is t) (there_below n lt) (ascending_once (names_below texts flags n) up)).names (nth_text texts n) x (
        (stand.numbered.vertex (nth_text texts n)).1 (n, lt, refl),
        λ i. let b = (lower_there n lt (nth_text texts n) i).1 in below_one_way (nth_text texts n) (nth_text texts n) b b,
      )

  to_earlier : (n : ℕ) → n < length edges → (x : Text) → KeepsName t (Lower n) (nth_text texts n) x → KeepsName t (Earlier n) (nth_text texts n) x
  to_earlier n lt x k = (label_within (λ b z. IsTrue (t.names b z)) (Lower n) (Earlier n) (lower_back n lt) (nth_text texts n) x k.0, λ s. k.1 (lower_there n lt x s))

  to_lower : (n : ℕ) → n < length edges → (x : Text) → KeepsName t (Earlier n) (nth_text texts n) x → KeepsName t (Lower n) (nth_text texts n) x
  to_lower n lt x k = (label_within (λ b z. IsTrue (t.names b z)) (Earlier n) (Lower n) (lower_there n lt) (nth_text texts n) x k.0, λ s. k.1 (lower_back n lt x s))

  -- what a removed place's row has, its feature names at its turn
  names_at : (n i : ℕ) → n < length edges → i < length edges → IsWanted flags true n →
      list_any (nat_eq i) (row_items rows n) ≡ (without_all (names_below texts flags n) (unremoved t)).table.names (nth_text texts n) (nth_text texts i)
  names_at n i lt below gone = by_true _ _ (
    λ y. (at_its_turn n lt (nth_text texts i)).1 (to_earlier n lt (nth_text texts i) ((redirects_are n (nth_text texts i) lt gone).0 (i, fits i below, refl, true_stands (row_items rows n) i y))),
    λ y.
        let j = (redirects_are n (nth_text texts i) lt gone).1 (to_lower n lt (nth_text texts i) ((at_its_turn n lt (nth_text texts i)).0 y)) in
        stands_true (row_items rows n) i (subst (Among (row_items rows n)) (sym (stand.numbered.one i j.0 below j.1 (sym j.2))) j.3),
  )

  module _ (own : Text → List Text) (lists : ℕ → List Text) (start : (i : ℕ) → i < length edges → lists i ≡ own (nth_text texts i)) where
    abbrev Agrees : ℕ → Type 0
    Agrees n = (i : ℕ) → i < length edges → passed_below rows flags n lists i ≡ pass_all (names_below texts flags n) (unremoved t) own (nth_text texts i)

    one_turn : (n : ℕ) → n < length edges → Agrees n → Agrees (suc n)
    one_turn n lt agrees i below = grind (arith, names_at, last_passes)

    all_turns : (n : ℕ) → n ≤ length edges → Agrees n
    all_turns zero le = start
    all_turns (suc n) le = one_turn n (omega (arith, le)) (all_turns n (omega (arith, le)))

    order_is : (v : Text) → Among (names_below texts flags (length edges)) v ↔ Gone v
    order_is v = grind (arith, named_below, fits)

    passed_at : (new : List Feature) → length new ≡ length edges → ((i : ℕ) → i < length edges → bins_of new i ≡ passed_below rows flags (length edges) lists i) → ArePassedAt t removed own texts flags new
    passed_at new long has = record {
      order = names_below texts flags (length edges);
      in_order = record { ascending = ascends_below (length edges) (omega arith); members = order_is };
      lists = λ i lt kept. let below = subst (λ n. i < n) long lt in has i below ∙ all_turns (length edges) (omega arith) i below;
    }

module _ (t : Table) (removed : Text → Bool) (old : List Feature) (texts : List Text) (edges names : List (List ℕ)) (flags : List Bool) (stand : StandFor t removed old texts edges names flags) where
  abbrev R : Text → Type 0
  R v = IsTrue (removed v)

  -- what stands for each removed vertex
  abbrev AreRedirects : List (List ℕ) → Type 0
  AreRedirects rows = (r x : ℕ) → r < length edges → IsWanted flags true r → Leads rows r x ↔ IsRedirect edges flags names r x

  redirects_there : (rows : List (List ℕ)) → AreRedirects rows → (r : ℕ) (x : Text) → r < length edges → IsWanted flags true r →
      HasNumber texts (length texts) (Leads rows r) x ↔ RedirectsTo t R (λ a b. IsTrue (is_below a b)) (nth_text texts r) x
  redirects_there rows are_redirects r x lt gone =
      let to = numbered.redirects_to t R texts edges names flags stand.numbered r x lt gone in (
        λ n. to.1 (n.0, n.1, n.2, (are_redirects r n.0 lt gone).0 n.3),
        λ d. let n = to.0 d in (n.0, n.1, n.2, (are_redirects r n.0 lt gone).1 n.3),
      )

  module _ (left new : List Feature) (l : AllTakeOver edges names flags texts (length edges) old left) (s : AreSameButBins left new) where
    vertex_place : (i : ℕ) → i < length edges → i < length old
    vertex_place i lt = subst (λ n. i < n) stand.count lt

    long : length left ≡ length edges
    long = alike_len (λ (v : Feature). v.required_by_bins) old left l.same ∙ sym stand.count

    kept_there : HaveNoEnablers old → (i : ℕ) (w : Feature) → IsWanted flags false i → slice_get new i ≡ Some w → IsKeptFeature t R (nth_text texts i) w
    kept_there none i w kept at =
        let u = stood but_bins left new s i w at in
        let lt : i < length edges = subst (λ n. i < n) long (slice_get_within left i u.0 u.1) in
        is_kept_feature t removed old texts edges names flags stand i lt kept left (l.holds i lt kept)
        (λ e. grind (arith, l.learn i e (vertex_place i lt), no_enabler old stand.in_order none i (vertex_place i lt) e))
        w (sym (alike_place but_bins left new s (λ p. p.1.0) i) ∙ ap (option_map deeds_of) at)
        (λ e. sym (alike_at but_bins left new s (λ p. set_has p.1.1 e) false i) ∙ ap (λ o. option_map_or (λ v. set_has v.enabled_by e) o false) at)

    -- the binaries in a place are those of the feature of its text
    same_bins : (i : ℕ) → i < length edges → bins_of left i ≡ own_bins old (nth_text texts i)
    same_bins i lt = alike_at (λ (v : Feature). v.required_by_bins) old left l.same (λ p. map (λ b. b.now) p.1.items) [] i
        ∙ sym (ap (λ o. option_map_or (λ v. map (λ b. b.now) v.required_by_bins.items) o []) (ap (feature_at old) (stand.vertices i (vertex_place i lt)) ∙ found_at old stand.in_order i (vertex_place i lt)))

    bins_there : (rows : List (List ℕ)) → AreRedirects rows →
        ((y : ℕ) → y < length left → bins_of new y ≡ passed_below rows flags (length left) (bins_of left) y) → ArePassedAt t removed (own_bins old) texts flags new
    bins_there rows are_redirects has = passed_at t removed old texts edges names rows flags stand (redirects_there rows are_redirects) (own_bins old) (bins_of left) same_bins new
        (alike_len but_bins left new s ∙ long) (λ i lt. has i (subst (λ n. i < n) (sym long) lt) ∙ ap (λ n. passed_below rows flags n (bins_of left) i) long)

pub find_redirects-requires-clause-within : goal.find_redirects-requires-clause-within
find_redirects-requires-clause-within c = grind (arith, common_steps)

pub find_redirects-requires-clause-room : goal.find_redirects-requires-clause-room
find_redirects-requires-clause-room c =
    let room : length c.in_ok-walk.walk.met ≡ length c.args.graph.flags.items = search rules in
    c.in_ok-keep_all.ensures.room ∙ room ∙ sym (ap length c.as_slice-is_removed.ensures.value)

pub returns : goal.returns
returns c =
    let g = c.args.graph in
    let old = c.args.features.now.items in
    let left = c.keep_all.new.features.items in
    let new = c.pass_bins.new.features.items in
    let ts = texts_now g.texts.items in
    let es = g.edges in
    let ns = g.names in
    let fs = g.flags.items in
    let r = c.in_ok-found.found in
    let found : FindsRedirects es ns fs r.moved.items r.rows = subst (λ f. FindsRedirects es ns f r.moved.items r.rows) c.as_slice-is_removed.ensures.value c.in_ok-found.ensures in
    let leaves = c.in_ok-keep_all.ensures.kept in
    let others = c.in_ok-pass_bins.ensures.others in
    let passed : (y : ℕ) → y < length left → bins_of new y ≡ passed_below r.rows fs (length left) (bins_of left) y =
    subst (λ f. (y : ℕ) → y < length left → bins_of new y ≡ passed_below r.rows f (length left) (bins_of left) y) c.as_slice-is_removed.ensures.value c.in_ok-pass_bins.ensures.bins in
    let are : (x z : ℕ) → x < length es → IsWanted fs true x → Leads r.rows x z ↔ IsRedirect es fs ns x z = λ x z lt gone. found.redirects x z (subst (λ n. x < n) (sym g.names_count) lt) gone in
    record {
      texts = refl;
      flags = refl;
      count = found.len ∙ g.names_count ∙ c.requires.count;
      same = alike_too but_bins left new others {Y = Said × Said} (λ p. (p.0, p.0)) ∙ alike_too (λ (v : Feature). v.required_by_bins) old left leaves.same {Y = Said × Said} (λ p. (p.0, p.0));
      kept = λ t removed stand. kept_there t removed old ts es ns fs stand left new leaves others c.requires.no_enablers;
      bins = λ t removed stand. bins_there t removed old ts es ns fs stand left new leaves others r.rows are passed;
      left = λ i gone. alike_place but_bins left new others (λ p. p.1.0) i ∙ leaves.rest i (inr gone);
      stays = found.own;
      redirects = λ t removed stand. redirects_there t removed old ts es ns fs stand r.rows are;
    }

pub invariant_of-result : goal.invariant_of-result
invariant_of-result c = search (rules, c.in_ok-found.ensures)
