-- From all that is resolved, and what is kept of it once hidden features are taken out, to the whole answer.
use Rattle.cargo_toml_resolve.proofs.Cited.{AreKept, ArePassedOn, AreTable, BTreeSet, Bool, Bor, Entry, Feature, Features, HashMap, IfSome, IsAnswerWithout, IsKeyed, IsRemovedBy, IsTrue, List, Listed, NamedDetails, Option, RedirectsTo, SameRecorded, Some, Table, Text, [], alike_itself, answer_of, arith, bin_requirement, bytes_eq, bytes_eq-Decides, entries_at, entry_of, false, false≢true, feature_at, hash_map_len, is_below}
use Rattle.cargo_toml_resolve.proofs.Cited.{is_some, length, listed_of, lookup, map, marked, marks_in, marks_of, named_details, not, option_map, option_map_or, own_bins, own_of, passed_all_alike, passed_has, plain_detail, recorded_in, recorded_of, refl, said_of, set_has, subst, sym, table_among, table_of, true, unremoved, value_at, ◌↔◌, ◌∙◌, ◌∷◌, ◌≡◌}
use Rattle.cargo_toml_resolve.proofs.{InPlace.found_stands, ByFilter.answer_alike, ByFilter.answer_by, ByFilter.own_table}
use Rattle.cargo_toml_resolve.proofs.resolution.resolve.Goals as goal

-- each feature that is kept stands under its own key
keyed_by : {S : Type 0} (t : Table) (removed : Text → Bool) (vs : List Feature) (m : HashMap (Bor Text) Feature S) (hidden : HashMap (Bor Text) (BTreeSet (Bor Text)) S) → AreKept t removed vs m hidden → IsKeyed m
keyed_by t removed vs m hidden kept f = go (value_at m f) (kept.own f)
  where
    go : (o : Option Feature) → IfSome o (λ w. option_map said_of (feature_at vs f) ≡ Some (said_of w)) → IfSome o (λ w. w.key.now ≡ f)
    go o own = grind (arith, found_stands)

-- the key of a feature that may be there
key_told : (f : Text) (o : Option Feature) → IfSome o (λ v. v.key.now ≡ f) → IfSome (option_map (λ (v : Feature). v.key.now) o) (λ k. k ≡ f)
key_told f o k = grind arith

-- the binaries of one that is there
bins_told : (own : List Text) (o : Option Feature) → IsTrue (is_some o) → IfSome o (λ v. map (λ b. b.now) v.required_by_bins.items ≡ own) → option_map_or (λ v. map (λ (b : Bor Text). b.now) v.required_by_bins.items) o [] ≡ own
bins_told own o y e = grind arith

-- a set of texts is there where it is seen as a test
test_there : (o : Option (BTreeSet (Bor Text))) → is_some (option_map set_has o) ≡ is_some o
test_there o = grind arith

module _ {S H : Type 0} (listed : Listed) (entries : List Entry) (details : NamedDetails) (own : Text → List Text) (removed : Text → Bool) (vs : List Feature) (a : Features S H)
    (start : AreTable (table_of listed entries) vs) (there : (f : Text) → IsTrue (removed f) → IsTrue ((table_of listed entries).has f))
    (marks : (f : Text) → IfSome (feature_at vs f) (λ v. marks_of v ≡ marks_in listed details f))
    (bins : (f : Text) → IfSome (feature_at vs f) (λ v. map (λ b. b.now) v.required_by_bins.items ≡ own f))
    (dependencies : (k : Text) → SameRecorded ((answer_of a).dependencies k) (recorded_of (entries_at listed entries k)))
    (kept : AreKept (table_of listed entries) removed vs a.features a.hidden_features)
    (some : IsTrue a.removed_hidden_features ↔ ((r : Text) × IsTrue (removed r))) where
  abbrev t : Table
  t = table_of listed entries

  abbrev R : Text → Type 0
  R f = IsTrue (removed f)

  keyed : IsKeyed a.features
  keyed = keyed_by (table_of listed entries) removed vs a.features a.hidden_features kept

  key_at : (f : Text) → IfSome (option_map (λ (v : Feature). v.key.now) (value_at a.features f)) (λ k. k ≡ f)
  key_at f = key_told f (value_at a.features f) (keyed f)

  marks_at : (f : Text) → IsTrue (is_some (value_at a.features f)) → option_map_or marks_of (value_at a.features f) (marked false plain_detail) ≡ marks_in listed details f
  marks_at f = grind arith

  own_at : (f : Text) → IsTrue (t.has f) → own_bins vs f ≡ own f
  own_at f has = bins_told (own f) (feature_at vs f) (start.has f ∙ has) (bins f)

  passed_on : ArePassedOn t R own (answer_of a).bins
  passed_on = record {
    order = kept.bins.order;
    in_order = kept.bins.in_order;
    lists = λ f k. kept.bins.lists f k
        ∙ passed_all_alike (λ v. IsTrue (t.has v)) kept.bins.order (unremoved t) (unremoved t) (own_bins vs) own (alike_itself (unremoved t)) (λ v i. there v ((kept.bins.in_order.members v).0 i)) own_at f k.0;
  }

  redirected : (r : Text) → is_some (option_map set_has (value_at a.hidden_features r)) ≡ removed r
  redirected r = test_there (value_at a.hidden_features r) ∙ kept.redirected r

  redirects : (r : Text) → IfSome (option_map set_has (value_at a.hidden_features r)) (λ names. (x : Text) → IsTrue (names x) ↔ RedirectsTo t R (λ s b. IsTrue (is_below s b)) r x)
  redirects r = grind arith

  answers : IsAnswerWithout listed entries details own R (answer_of a)
  answers = record {
    kept = record { resolved = kept.resolved; keyed = key_at; marks = marks_at; dependencies = dependencies; some = some };
    bins = λ f y. passed_has t R own there (answer_of a).bins passed_on f ((kept.resolved.kept f).0 y);
    passed_on = passed_on;
    redirected = λ r. (λ y. sym (redirected r) ∙ y, λ y. redirected r ∙ y);
    redirects = redirects;
  }

-- some feature is removed exactly if something stands for one
some_hidden : {X S : Type 0} (m : HashMap (Bor Text) X S) (b : Bool) → IsTrue b ↔ (hash_map_len m ≡ 0) → IsTrue (not b) ↔ ((r : Text) × IsTrue (is_some (value_at m r)))
some_hidden {X} m b empty = go m.entries b empty
  where
    go : (es : List (Bor Text × X)) (b : Bool) → IsTrue b ↔ (length es ≡ 0) → IsTrue (not b) ↔ ((r : Text) × IsTrue (is_some (lookup (λ k. bytes_eq r k.now) es)))
    go [] true e = (λ y. absurd (false≢true y), λ r. absurd (false≢true r.1))
    go [] false e = absurd (false≢true (e.1 refl))
    go (p ∷ es) true e = absurd (let none = e.0 refl in omega (arith, none))
    go (p ∷ es) false e = (λ y. (p.0.now, grind (arith, (bytes_eq-Decides p.0.now p.0.now).1 refl)), λ r. refl)

pub returns-clause-resolved : goal.returns-clause-resolved
returns-clause-resolved g c =
    let listed = listed_of c.args.lists.now.listings.now in
    let entries = map entry_of c.args.lists.now.entries.now in
    let details = named_details c.args.lists.now.listings.now in
    let own = own_of (map bin_requirement c.args.lists.now.requirements.now) in
    let t : Table = table_of listed entries in
    let all = c.in_ok-features.ensures in
    let by = c.in_ok-kept.ensures t all.features.table in
    let hidden = c.in_ok-kept.field-0.hidden in
    let removed : Text → Bool = λ r. is_some (value_at hidden r) in
    let into : (f : Text) → IsTrue (removed f) → IsRemovedBy g.F.Fn c.args.filter t f = λ f. (by.removed f).0 in
    let answer : Features g.row.S.Denot g.row.S-Hasher.Denot = record { features = c.in_ok-kept.field-0.features; dependencies = c.in_ok-dependencies.dependencies; removed_hidden_features = not c.is_empty.result; hidden_features = hidden } in
    let without = answer_alike listed entries details own (λ f. IsTrue (removed f)) (IsRemovedBy g.F.Fn c.args.filter t) (answer_of answer) into (λ f. (by.removed f).1)
    (answers {S = g.row.S.Denot} {H = g.row.S-Hasher.Denot} listed entries details own removed c.in_ok-features.field-0.features.items answer
    all.features.table (λ f y. (into f y).there) all.features.marks all.features.bins
    (λ k. subst (λ o. SameRecorded (option_map recorded_in o) (recorded_of (entries_at listed entries k))) (sym (c.in_ok-dependencies.ensures.same k)) (all.dependencies k))
    by.kept (some_hidden hidden c.is_empty.result c.is_empty.ensures)) in
    answer_by listed entries details own g.F.Fn c.args.filter (answer_of answer) without
    (λ f left hidden. let stays = (without.kept.resolved.kept f).0 left in by.answered f stays.0 stays.1 hidden)

pub returns-clause-keyed : goal.returns-clause-keyed
returns-clause-keyed g c =
    let vs = c.in_ok-features.field-0.features.items in
    let l = c.in_ok-kept.field-0 in
    keyed_by (table_among vs) (λ r. is_some (value_at l.hidden r)) vs l.features l.hidden (c.in_ok-kept.ensures (table_among vs) (own_table vs)).kept
