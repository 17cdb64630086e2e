-- The graph of numbers that stands for features in order.
use Rattle.cargo_toml_resolve.proofs.Cited.{AreInOrder, AreRead, AreTable, AreTextsOf, Bool, Bor, Edge, Feature, HasNumber, IsFlagged, IsNaming, IsNumbered, IsTarget, IsTrue, IsWanted, Leads, List, StandFor, Table, Text, among_at, ap, arith, cases_lt, false, false≢true, get_or_past, inl, inr, length, length-map, names_of, nth_text, once, place_names, rises, rules, subst, sym, table_among, texts_now, true, ℕ, ◌<◌, ◌↔◌, ◌∙◌, ◌≡◌, ◌≤◌}
use Rattle.cargo_toml_resolve.proofs.{InPlace.edge_at, InPlace.has_place, InPlace.names_at, NumberRows.key_text, NumberRows.keys_fit, ByFilter.flag_at, ByFilter.flag_is, ByFilter.own_table, Steps.has_row}
use Rattle.cargo_toml_resolve.proofs.numbering.number.Goals as goal

-- a flag past the end doesn't stand
wanted_inside : (flags : List Bool) (i : ℕ) → IsWanted flags true i → i < length flags
wanted_inside flags i w = elim (cases_lt i (length flags)) [ inl lt ↦ lt | inr past ↦ absurd (false≢true (sym (get_or_past flags i false past) ∙ w)) ]

module _ (t : Table) (removed : Text → Bool) (vs : List Feature) (marks : List Bool) (texts : List Text) (edges names : List (List ℕ)) (flags : List Bool)
    (made : AreTable t vs) (removed_is : (f : Text) → IsTrue (removed f) ↔ IsFlagged vs marks f) (up : AreInOrder vs) (marked : length marks ≡ length vs) (h : AreTextsOf vs texts) (r : AreRead vs marks texts edges names)
    (flag_len : length flags ≡ length texts) (flag : (i : ℕ) → IsWanted flags true i ↔ IsWanted marks true i) where
  vertex_in : (i : ℕ) → i < length edges → i < length vs
  vertex_in i lt = subst (λ n. i < n) r.edges_len lt

  vertex_out : (i : ℕ) → i < length vs → i < length edges
  vertex_out i lt = subst (λ n. i < n) (sym r.edges_len) lt

  key_at : (i : ℕ) → i < length vs → nth_text texts i ≡ nth_text (names_of vs) i
  key_at i lt = key_text vs texts h i lt

  inside : (i : ℕ) → i < length vs → i < length texts
  inside i lt = let f = keys_fit vs texts h in omega (arith, f, lt)

  -- a text that is a key has the number of its feature
  one_number : (i j : ℕ) → i < length vs → j < length texts → nth_text texts i ≡ nth_text texts j → i ≡ j
  one_number i j lt lt' same = grind (arith, length-map, cases_lt, once, key_at i lt, key_at, among_at)

  names_here : (i : ℕ) (x : Text) → i < length vs → t.names (nth_text texts i) x ≡ place_names vs i x
  names_here i x lt = ap (λ f. t.names f x) (key_at i lt) ∙ sym (names_at t vs made up i lt x)

  has_key : (f : Text) → IsTrue (t.has f) ↔ ((i : ℕ) × (i < length vs) × (nth_text (names_of vs) i ≡ f))
  has_key f = has_place t vs made up f

  is_vertex : (f : Text) → IsTrue (t.has f) ↔ ((i : ℕ) × (i < length edges) × (nth_text texts i ≡ f))
  is_vertex f = grind (arith, has_key f, vertex_out, key_at, vertex_in)

  is_edge : (i j : ℕ) → i < length vs → j < length vs → Edge t (nth_text texts i) (nth_text texts j) ↔ IsTarget vs (names_of vs) i j
  is_edge i j lt lt' = rw (key_at i lt, key_at j lt') (edge_at t vs made up i j lt lt')

  leads : (i j : ℕ) → i < length edges → Leads edges i j ↔ ((j < length edges) × Edge t (nth_text texts i) (nth_text texts j))
  leads i j lt =
      let row = r.edges i j (vertex_in i lt) in (
        λ l. let w = row.0 l in (vertex_out j w.0, (is_edge i j (vertex_in i lt) w.0).1 w.1),
        λ e. row.1 (vertex_in j e.0, (is_edge i j (vertex_in i lt) (vertex_in j e.0)).0 e.1),
      )

  -- by the flags of all texts
  is_asked : (i : ℕ) → IsNaming edges flags i → IsNaming edges marks i
  is_asked i p = grind arith

  has_label : (i : ℕ) (x : Text) → i < length edges → IsNaming edges flags i → IsTrue (t.names (nth_text texts i) x) ↔ HasNumber texts (length texts) (Leads names i) x
  has_label i x lt asked = grind (arith, vertex_in i lt, is_asked i asked, names_here)

  is_flagged : (i : ℕ) → i < length texts → IsWanted flags true i ↔ IsFlagged vs marks (nth_text texts i)
  is_flagged i lt = (
    λ w. grind (arith, wanted_inside, key_at),
    λ k. grind (arith, one_number k.0 i k.1 lt (key_at k.0 k.1 ∙ k.2), key_at k.0 k.1),
  )

  graph_stands : IsNumbered t (λ v. IsTrue (removed v)) texts edges names flags
  graph_stands = record {
    one = λ i j lt. one_number i j (vertex_in i lt);
    count = subst (λ n. n ≤ length texts) (sym r.edges_len) (keys_fit vs texts h);
    vertex = is_vertex;
    in_order = λ i j earlier lt. grind (arith, vertex_in j lt, length-map, key_at, rises);
    leads = leads;
    labels = has_label;
    labels_inside = r.inside;
    flag_count = flag_len;
    flagged = λ i lt. (λ w. (removed_is (nth_text texts i)).1 ((is_flagged i lt).0 w), λ y. (is_flagged i lt).1 ((removed_is (nth_text texts i)).0 y));
    removed = λ v y. let k = (removed_is v).0 y in (has_key v).1 (k.0, k.1, k.2);
  }

  stands : StandFor t removed vs texts edges names flags
  stands = record { table = made; in_order = up; numbered = graph_stands; count = r.edges_len; vertices = key_at }

pub returns-clause-numbered : goal.returns-clause-numbered
returns-clause-numbered c = λ t removed made is.
    let ts = c.read_all.new.texts.items in
    let r = c.in_ok-edges.field-0 in
    let size : length c.in_ok-flags.flags.items ≡ length ts = search rules in
    stands t removed c.args.features.now c.args.flags.items (texts_now ts) r.edges r.names c.in_ok-flags.flags.items made is c.requires.in_order c.requires.len
    c.in_ok-edges.ensures.texts (rw c.as_slice.ensures.value at c.in_ok-edges.ensures.rows) (size ∙ sym (length-map ts (λ (t : Bor Text). t.now))) c.in_ok-flags.ensures.flags

pub returns-clause-vertices : goal.returns-clause-vertices
returns-clause-vertices c = key_text c.args.features.now (texts_now c.read_all.new.texts.items) c.in_ok-edges.ensures.texts

pub invariant_of-result : goal.invariant_of-result
invariant_of-result c =
    let vs = c.args.features.now in
    let ts = c.read_all.new.texts.items in
    let r = c.in_ok-edges.field-0 in
    let read = rw c.as_slice.ensures.value at c.in_ok-edges.ensures.rows in
    let long : length (texts_now ts) ≡ length ts = length-map ts (λ (t : Bor Text). t.now) in
    let size : length c.in_ok-flags.flags.items ≡ length ts = search rules in
    let n = (stands (table_among vs) (flag_at vs c.args.flags.items) vs c.args.flags.items (texts_now ts) r.edges r.names c.in_ok-flags.flags.items (own_table vs) (flag_is vs c.args.flags.items)
    c.requires.in_order c.requires.len c.in_ok-edges.ensures.texts read (size ∙ sym long) c.in_ok-flags.ensures.flags).numbered in
    record {
      once = λ i j lt lt'. n.one i j lt (subst (λ m. j < m) (sym long) lt');
      in_order = n.in_order;
      features_count = subst (λ m. length r.edges ≤ m) long n.count;
      names_count = read.names_len ∙ sym read.edges_len;
      flags_count = size;
      edges_inside = λ a b l. ((n.leads a b (has_row r.edges a b l)).0 l).0;
      names_inside = λ a x l. subst (λ m. x < m) long (n.labels_inside a x l);
    }
