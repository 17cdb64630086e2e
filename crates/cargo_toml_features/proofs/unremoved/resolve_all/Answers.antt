-- From what lists say to the full graph, of which no feature is removed.
use Rattle.cargo_toml_features.proofs.Cited.{HasSpanWithin, Listing, get_or, listing_names, length-map, zero, suc, ℕ, ◌++◌, Action, AreMadeOf, AreUnremoved, AreVertices, Ascend, Bool, Entry, Feature, FeatureDependency, HaveNoEnablers, HeldHaveTargets, IfSome, IsMadeOf, IsOnce, IsRecordOf, IsVertex, Item, List, ListItem, Listed, Mentions, NamedDetails, None, Option, RecordedKey, Relates, Required, RequiredAll, SameRecorded, Slots, Some, Table, Text, Vertex, [], action_at, acts_on, ap, ap₂, arith, bin_requirement, bytes_eq, codes, common_steps, cond, detail_listed, drop, entries_at, entry_of, false, feature_at, first_target, has_key, held_in, is_explicit, is_mentioned, is_mentioned_in, is_offered, is_optional_at, is_reserved, is_some, item_names, item_of, items, joined_action, joined_from, length, list_any, listed_of, lookup, map, marked, marks_in, marks_of, named_details, names_of, not, option_map, option_map_or, own_action, own_of, plain_action, recorded_at, recorded_in, recorded_of, refl, reserves, said_by, set_has, subst, sym, table_of, take, take-map, texts_in, thinned, true, unwrap_or, vertex_at, vertex_names, without_redundant, ◌&&◌, ◌-◌, ◌||◌, ◌∙◌, ◌∷◌, ◌≡◌}
use Rattle.cargo_toml_features.proofs.{Listings.names_listed, Making.acted_is, Making.reserved_is, Making.joined_thinned, Making.names_thinned, Rising.ascend_once, Rising.found_here, Targets.has_target}
use Rattle.cargo_toml_features.specs.Made as made
use Rattle.std.specs.List.{All}
use Rattle.cargo_toml_features.proofs.unremoved.resolve_all.Goals as goal

-- each dependency under a name has a target, where the slots say the same as some entries
have_targets : (s : Slots FeatureDependency) (entries : Text → List Entry) → ((k : Text) → SameRecorded (option_map recorded_in (held_in s k)) (recorded_of (entries k))) → HeldHaveTargets s
have_targets s entries same k = grind (arith, common_steps, has_target)

same_recorded : (a b : Option RecordedKey) → a ≡ b → SameRecorded a b
same_recorded a b e = grind (arith, common_steps)

-- the vertex and the feature of a name
abbrev Made : List ListItem → Option Vertex → Option Feature → Type 0
Made items None None = Unit {0}
Made items None (Some w) = ⊥
Made items (Some v) None = ⊥
Made items (Some v) (Some w) = IsMadeOf v (made.items_of items v) w

names_made : (items : List ListItem) (vs : List Vertex) (ws : List Feature) → AreMadeOf items vs ws → names_of ws ≡ vertex_names vs
names_made items [] [] h = refl
names_made items [] (w ∷ ws) h = absurd h
names_made items (v ∷ vs) [] h = absurd h
names_made items (v ∷ vs) (w ∷ ws) h = ap₂ (λ n ns. n ∷ ns) h.0.key (names_made items vs ws h.1)

made_at : (items : List ListItem) (vs : List Vertex) (ws : List Feature) → AreMadeOf items vs ws → (f : Text) → Made items (vertex_at vs f) (feature_at ws f)
made_at items [] [] h f = tt
made_at items [] (w ∷ ws) h f = absurd h
made_at items (v ∷ vs) [] h f = absurd h
made_at items (v ∷ vs) (w ∷ ws) h f =
    subst (λ n. Made items (cond (bytes_eq f v.name.now) (Some v) (vertex_at vs f)) (cond (bytes_eq f n) (Some w) (feature_at ws f))) (sym h.0.key)
    (go (bytes_eq f v.name.now) (made_at items vs ws h.1 f))
  where
    go : (t : Bool) → Made items (vertex_at vs f) (feature_at ws f) → Made items (cond t (Some v) (vertex_at vs f)) (cond t (Some w) (feature_at ws f))
    go true later = h.0
    go false later = later

drop-map : {X Y : Type 0} (f : X → Y) (n : ℕ) (xs : List X) → drop n (map f xs) ≡ map f (drop n xs)
drop-map f zero xs = refl
drop-map f (suc n) [] = refl
drop-map f (suc n) (x ∷ xs) = drop-map f n xs

-- what a part of mapped items says
part-map : {X Y : Type 0} (f : X → Y) (n m : ℕ) (xs : List X) → take n (drop m (map f xs)) ≡ map f (take n (drop m xs))
part-map f n m xs = ap (take n) (drop-map f m xs) ∙ take-map f n (drop m xs)

-- what is told of features, and of dependencies
record IsAllTold (listed : Listed) (entries : List Entry) (details : NamedDetails) (own : Text → List Text) (last : List Feature) (deps : Slots FeatureDependency) : Type 0 where
  features : AreUnremoved listed entries details own last
  no_enablers : HaveNoEnablers last
  dependencies : (k : Text) → SameRecorded (recorded_at deps k) (recorded_of (entries_at listed entries k))
  targets : HeldHaveTargets deps

module _ (listed : Listed) (once : IsOnce (map (λ e. e.0) listed)) (entries : List Entry) (details : NamedDetails) (own : Text → List Text) (said items : List ListItem) (mentions : Mentions) (fs last : List Feature) (deps : Slots FeatureDependency)
    (say : map said_by said ≡ map item_of (texts_in listed))
    (keys : (k : Text) → has_key mentions.acted.keys k ≡ list_any (acts_on k) (map said_by said)) (reserved : (k : Text) → has_key mentions.acted.reserved k ≡ list_any (reserves k) (map said_by said))
    (are : AreVertices listed details (is_offered (has_key mentions.acted.reserved) entries) mentions.vertices.items)
    (recorded : (listed : Listed) → ((k : Text) → is_mentioned_in mentions k ≡ is_mentioned listed k) → (k : Text) → recorded_at deps k ≡ recorded_of (entries_at listed entries k))
    (thin : (E : Text → List Entry) → IsRecordOf deps E → map said_by items ≡ map (thinned E) (map said_by said))
    (make : AreMadeOf items mentions.vertices.items fs) (require : RequiredAll own fs last) where
  abbrev t : Table
  t = table_of listed entries

  abbrev E : Text → List Entry
  E = entries_at listed entries

  abbrev vs : List Vertex
  vs = mentions.vertices.items

  abbrev offered : Text → Bool
  offered = is_offered (has_key mentions.acted.reserved) entries

  -- ---- which keys are mentioned
  listed_at : (f : Text) (o : Option Vertex) → vertex_at vs f ≡ o → option_map_or (λ v. v.is_listed) o false ≡ is_explicit listed f
  listed_at f None none = sym (off (is_explicit listed f) (offered f) (sym (are.has f) ∙ ap is_some none))
    where
      off : (a b : Bool) → (a || b) ≡ false → a ≡ false
      off true b h = h
      off false b h = refl
  listed_at f (Some v) some = (subst (λ o. IfSome o (IsVertex (texts_in listed) f (is_explicit listed f) (unwrap_or (lookup (bytes_eq f) listed) []) (detail_listed listed details f))) some (are.told f)).is_listed

  mentioned : (k : Text) → is_mentioned_in mentions k ≡ is_mentioned listed k
  mentioned k = ap₂ (λ a b. a || b) (listed_at k (vertex_at vs k) refl) (keys k ∙ ap (list_any (acts_on k)) say ∙ acted_is listed once k)

  record_is : IsRecordOf deps E
  record_is = recorded listed mentioned

  offered_is : (f : Text) → offered f ≡ (list_any (is_optional_at f) entries && not (is_reserved listed f))
  offered_is f = ap (λ b. list_any (is_optional_at f) entries && not b) (reserved f ∙ ap (list_any (reserves f)) say ∙ reserved_is listed once f)

  -- ---- what is left of a list
  thin_items : map said_by items ≡ map (thinned E) (map item_of (texts_in listed))
  thin_items = thin E record_is ∙ ap (map (thinned E)) say

  abbrev list_of : Text → List Item
  list_of f = map item_of (unwrap_or (lookup (bytes_eq f) listed) [])

  items_left : (f : Text) (v : Vertex) → IsVertex (texts_in listed) f (is_explicit listed f) (unwrap_or (lookup (bytes_eq f) listed) []) (detail_listed listed details f) v
      → made.items_of items v ≡ map (thinned E) (list_of f)
  items_left f v is =
      sym (part-map said_by (v.items.end - v.items.start) v.items.start items)
      ∙ ap (λ xs. take (v.items.end - v.items.start) (drop v.items.start xs)) thin_items
      ∙ part-map (thinned E) (v.items.end - v.items.start) v.items.start (map item_of (texts_in listed))
      ∙ ap (map (thinned E)) (part-map item_of (v.items.end - v.items.start) v.items.start (texts_in listed)
      ∙ ap (map item_of) (ap (λ n. take n (drop v.items.start (texts_in listed))) count ∙ is.items.stand.there))
    where
      count : v.items.end - v.items.start ≡ length (unwrap_or (lookup (bytes_eq f) listed) [])
      count = let ends = is.items.ends in omega (arith, ends)

  -- ---- the features, by their names
  record IsTold (f : Text) (w : Feature) : Type 0 where
    key : w.key.now ≡ f
    enabled_by : w.enabled_by.keys ≡ []
    bins : w.required_by_bins.items ≡ []
    marks : marks_of w ≡ marks_in listed details f
    names : (x : Text) → set_has w.enables_features x ≡ list_any (item_names x) (list_of f)
    action : (k : Text) → action_at w.enables_deps k ≡ t.action f k

  unlisted : (f : Text) → is_explicit listed f ≡ false → lookup (bytes_eq f) listed ≡ None
  unlisted f off = go (bytes_eq f (codes "default")) (lookup (bytes_eq f) listed) off
    where
      go : (b : Bool) (o : Option (List Text)) → (b || is_some o) ≡ false → o ≡ None
      go true o h = absurd cc
      go false None h = refl
      go false (Some x) h = absurd cc

  -- what an implied feature does, and what a listed one does
  action_told : (f k : Text) (v : Vertex) (b i : Bool) → is_explicit listed f ≡ b → v.is_listed ≡ b → v.name.now ≡ f → (b ≡ false → i ≡ true)
      → joined_from (own_action v k) (map (thinned E) (list_of f)) k
      ≡ option_map (without_redundant (first_target (E k))) (cond b (joined_action listed f k) (cond (i && bytes_eq k f) (Some plain_action) None))
  action_told f k v true i explicit on named implied =
      ap (λ l. joined_from (cond l None (cond (bytes_eq k v.name.now) (Some plain_action) None)) (map (thinned E) (list_of f)) k) on
      ∙ joined_thinned E k None (list_of f)
  action_told f k v false i explicit off named implied =
      ap (λ l. joined_from (cond l None (cond (bytes_eq k v.name.now) (Some plain_action) None)) (map (thinned E) (list_of f)) k) off
      ∙ ap (λ n. joined_from (cond (bytes_eq k n) (Some plain_action) None) (map (thinned E) (list_of f)) k) named
      ∙ ap (λ o. joined_from (cond (bytes_eq k f) (Some plain_action) None) (map (thinned E) (map item_of (unwrap_or o []))) k) (unlisted f explicit)
      ∙ go (bytes_eq k f) ∙ ap (λ j. option_map (without_redundant (first_target (E k))) (cond (j && bytes_eq k f) (Some plain_action) None)) (sym (implied refl))
    where
      go : (b : Bool) → cond b (Some plain_action) None ≡ option_map (without_redundant (first_target (E k))) (cond (true && b) (Some plain_action) None)
      go true = refl
      go false = refl

  implied_at : (f : Text) → (is_explicit listed f || offered f) ≡ true → is_explicit listed f ≡ false → (list_any (is_optional_at f) entries && not (is_reserved listed f) && not (is_explicit listed f)) ≡ true
  implied_at f some off =
      ap (λ b. list_any (is_optional_at f) entries && not (is_reserved listed f) && not b) off
      ∙ go (list_any (is_optional_at f) entries && not (is_reserved listed f)) (sym (ap₂ (λ a b. a || b) off (offered_is f)) ∙ some)
    where
      go : (i : Bool) → (false || i) ≡ true → (i && true) ≡ true
      go true h = refl
      go false h = h

  told_made : (f : Text) (v : Vertex) (w : Feature) → vertex_at vs f ≡ Some v → IsMadeOf v (made.items_of items v) w → IsTold f w
  told_made f v w some is = record {
    key = is.key ∙ vertex.name;
    enabled_by = is.enabled_by;
    bins = is.bins;
    marks = is.marks ∙ ap₂ marked vertex.is_listed vertex.detail;
    names = λ x. is.names x ∙ ap (list_any (item_names x)) (items_left f v vertex) ∙ names_thinned E x (list_of f);
    action = λ k. is.action k ∙ ap (λ xs. joined_from (own_action v k) xs k) (items_left f v vertex)
        ∙ action_told f k v (is_explicit listed f) _ refl vertex.is_listed vertex.name (implied_at f (sym (are.has f) ∙ ap is_some some));
  }
    where
      vertex : IsVertex (texts_in listed) f (is_explicit listed f) (unwrap_or (lookup (bytes_eq f) listed) []) (detail_listed listed details f) v
      vertex = subst (λ o. IfSome o (IsVertex (texts_in listed) f (is_explicit listed f) (unwrap_or (lookup (bytes_eq f) listed) []) (detail_listed listed details f))) some (are.told f)

  -- what stands at a name before binaries are known
  abbrev TellsOf : Text → Bool → Option Feature → Type 0
  TellsOf f b None = b ≡ false
  TellsOf f b (Some w) = (b ≡ true) × IsTold f w

  tells : (f : Text) → TellsOf f (t.has f) (feature_at fs f)
  tells f = go (vertex_at vs f) (feature_at fs f) refl (made_at items vs fs make f)
    where
      has : (is_explicit listed f || offered f) ≡ t.has f
      has = ap (λ i. is_explicit listed f || i) (offered_is f) ∙ or_not (is_explicit listed f) (list_any (is_optional_at f) entries && not (is_reserved listed f))
        where
          or_not : (a i : Bool) → (a || i) ≡ (a || (i && not a))
          or_not true i = refl
          or_not false true = refl
          or_not false false = refl

      go : (o : Option Vertex) (p : Option Feature) → vertex_at vs f ≡ o → Made items o p → TellsOf f (t.has f) p
      go None None none h = sym has ∙ sym (are.has f) ∙ ap is_some none
      go None (Some w) none h = absurd h
      go (Some v) None some h = absurd h
      go (Some v) (Some w) some h = (sym has ∙ sym (are.has f) ∙ ap is_some some, told_made f v w some h)

  -- and once they are
  abbrev Tells : Text → Bool → Option Feature → Type 0
  Tells f b None = b ≡ false
  Tells f b (Some w) = (b ≡ true) × (w.enabled_by.keys ≡ []) × (marks_of w ≡ marks_in listed details f) × ((x : Text) → set_has w.enables_features x ≡ list_any (item_names x) (list_of f))
      × ((k : Text) → action_at w.enables_deps k ≡ t.action f k) × (map (λ b. b.now) w.required_by_bins.items ≡ own f)

  required_at : (f : Text) (b : Bool) (o p : Option Feature) → TellsOf f b o → Relates (Required (own f)) o p → Tells f b p
  required_at f b None None h r = h
  required_at f b None (Some w) h r = absurd r
  required_at f b (Some u) None h r = absurd r
  required_at f b (Some u) (Some w) h r = (
    h.0,
    ap (λ (q : Feature). q.enabled_by.keys) r.same ∙ h.1.enabled_by,
    ap marks_of r.same ∙ h.1.marks,
    λ x. ap (λ (q : Feature). set_has q.enables_features x) r.same ∙ h.1.names x,
    λ k. ap (λ (q : Feature). action_at q.enables_deps k) r.same ∙ h.1.action k,
    r.bins ∙ ap (λ bs. map (λ b. b.now) bs ++ own f) h.1.bins,
  )

  all_told : (f : Text) → Tells f (t.has f) (feature_at last f)
  all_told f = required_at f (t.has f) (feature_at fs f) (feature_at last f) (tells f) (require.at f)

  -- a name that no feature has names nothing and does nothing
  unnamed : (f x : Text) → t.has f ≡ false → list_any (item_names x) (list_of f) ≡ false
  unnamed f x off = ap (λ o. list_any (item_names x) (map item_of (unwrap_or o []))) (unlisted f (first_off (is_explicit listed f) _ off))
    where
      first_off : (a b : Bool) → (a || b) ≡ false → a ≡ false
      first_off true b h = h
      first_off false b h = refl

  undone : (f k : Text) → t.has f ≡ false → t.action f k ≡ None
  undone f k off = go (is_explicit listed f) _ (bytes_eq k f) (joined_action listed f k) off
    where
      go : (a i b : Bool) (o : Option Action) → (a || i) ≡ false → option_map (without_redundant (first_target (E k))) (cond a o (cond (i && b) (Some plain_action) None)) ≡ None
      go true i b o h = absurd cc
      go false true b o h = absurd cc
      go false false b o h = refl

  unremoved : AreUnremoved listed entries details own last
  unremoved = record {
    table = record {
      has = λ f. has_told (t.has f) (feature_at last f) f (all_told f);
      names = λ f x. names_told f x (t.has f) (feature_at last f) refl (all_told f);
      action = λ f k. action_of_told f k (t.has f) (feature_at last f) refl (all_told f);
    };
    marks = λ f. marks_told f (t.has f) (feature_at last f) (all_told f);
    bins = λ f. bins_told f (t.has f) (feature_at last f) (all_told f);
  }
    where
      has_told : (b : Bool) (o : Option Feature) (f : Text) → Tells f b o → is_some o ≡ b
      has_told b None f h = sym h
      has_told b (Some w) f h = sym h.0

      names_told : (f x : Text) (b : Bool) (o : Option Feature) → t.has f ≡ b → Tells f b o → option_map_or (λ v. set_has v.enables_features x) o false ≡ t.names f x
      names_told f x b None is h = sym (unnamed f x (is ∙ h))
      names_told f x b (Some w) is h = h.3 x

      action_of_told : (f k : Text) (b : Bool) (o : Option Feature) → t.has f ≡ b → Tells f b o → option_map_or (λ v. action_at v.enables_deps k) o None ≡ t.action f k
      action_of_told f k b None is h = sym (undone f k (is ∙ h))
      action_of_told f k b (Some w) is h = h.4 k

      marks_told : (f : Text) (b : Bool) (o : Option Feature) → Tells f b o → IfSome o (λ v. marks_of v ≡ marks_in listed details f)
      marks_told f b None h = tt
      marks_told f b (Some w) h = h.2

      bins_told : (f : Text) (b : Bool) (o : Option Feature) → Tells f b o → IfSome o (λ v. map (λ b. b.now) v.required_by_bins.items ≡ own f)
      bins_told f b None h = tt
      bins_told f b (Some w) h = h.5

  no_enablers : HaveNoEnablers last
  no_enablers f = go (t.has f) (feature_at last f) (all_told f)
    where
      go : (b : Bool) (o : Option Feature) → Tells f b o → IfSome o (λ v. v.enabled_by.keys ≡ [])
      go b None h = tt
      go b (Some w) h = h.1

  dependencies : (k : Text) → SameRecorded (recorded_at deps k) (recorded_of (entries_at listed entries k))
  dependencies k = same_recorded (recorded_at deps k) (recorded_of (entries_at listed entries k)) (record_is k)

  told : IsAllTold listed entries details own last deps
  told = record { features = unremoved; no_enablers = no_enablers; dependencies = dependencies; targets = have_targets deps E dependencies }

-- the items of each vertex stand among all
spans : (listed : Listed) (details : NamedDetails) (implied : Text → Bool) (vs : List Vertex) → AreVertices listed details implied vs → (n : ℕ) → length (texts_in listed) ≡ n → All (HasSpanWithin n) vs
spans listed details implied vs are n same k d inside =
    let v = get_or vs k d in
    let is : IsVertex (texts_in listed) v.name.now (is_explicit listed v.name.now) (unwrap_or (lookup (bytes_eq v.name.now) listed) []) (detail_listed listed details v.name.now) v =
    subst (λ o. IfSome o (IsVertex (texts_in listed) v.name.now (is_explicit listed v.name.now) (unwrap_or (lookup (bytes_eq v.name.now) listed) []) (detail_listed listed details v.name.now)))
    (found_here (λ (w : Vertex). w.name.now) vs k d are.ascend inside) (are.told v.name.now) in
    let ends = is.items.ends in
    let within = is.items.stand.within in
    record { forward = omega (arith, ends); within = omega (arith, ends, within, same) }

-- as many items as texts
items_count : (listed : Listed) (items : List ListItem) → map said_by items ≡ map item_of (texts_in listed) → length (texts_in listed) ≡ length items
items_count listed items say = sym (length-map (texts_in listed) item_of) ∙ sym (ap length say) ∙ length-map items said_by

listed_once : (ls : List Listing) → Ascend (listing_names ls) → IsOnce (map (λ e. e.0) (listed_of ls))
listed_once ls up = subst IsOnce (sym (names_listed ls)) (ascend_once (listing_names ls) up)

-- ---- the goals
pub vertices_of-requires-clause-fits : goal.vertices_of-requires-clause-fits
vertices_of-requires-clause-fits c =
    let count = items_count (listed_of c.args.listings.now) c.in_ok-items.items.items c.in_ok-items.ensures in
    let ok = c.in_ok-items.items.ok.0 in
    let small = c.in_ok-items.items.small in
    omega (arith, count, ok, small)

pub features_of-requires : goal.features_of-requires
features_of-requires c =
    let ls = c.args.listings.now in
    rw (c.as_slice-vertices.ensures.value, c.as_slice-2.ensures.value)
    (spans (listed_of ls) (named_details ls) (is_offered (has_key c.in_ok-acted.acted.reserved) (map entry_of c.args.entries.now)) c.in_ok-vertices.vertices.items c.in_ok-vertices.ensures (length c.drop_redundant.new.items.items)
    (items_count (listed_of ls) c.in_ok-items.items.items c.in_ok-items.ensures ∙ sym c.in_ok-drop_redundant.ensures.count))

-- the features that are made, in the places of their vertices
made_of : (items : List ListItem) (vs : List Vertex) (xs : List ListItem) (us : List Vertex) (fs : List Feature) → xs ≡ items → us ≡ vs → AreMadeOf xs us fs → AreMadeOf items vs fs
made_of items vs xs us fs same same' h = subst (λ ys. AreMadeOf ys vs fs) same (subst (λ ws. AreMadeOf xs ws fs) same' h)

pub with_bins-requires-clause-in_order : goal.with_bins-requires-clause-in_order
with_bins-requires-clause-in_order c =
    let make = made_of c.drop_redundant.new.items.items c.in_ok-vertices.vertices.items c.as_slice-2.result.now c.as_slice-vertices.result.now c.in_ok-made.made.items c.as_slice-2.ensures.value c.as_slice-vertices.ensures.value c.in_ok-made.ensures in
    subst Ascend (sym (names_made c.drop_redundant.new.items.items c.in_ok-vertices.vertices.items c.in_ok-made.made.items make)) c.in_ok-vertices.ensures.ascend

pub with_bins-requires-clause-names : goal.with_bins-requires-clause-names
with_bins-requires-clause-names c =
    let make = made_of c.drop_redundant.new.items.items c.in_ok-vertices.vertices.items c.as_slice-2.result.now c.as_slice-vertices.result.now c.in_ok-made.made.items c.as_slice-2.ensures.value c.as_slice-vertices.ensures.value c.in_ok-made.ensures in
    ap vertex_names c.as_slice-vertices.ensures.value ∙ sym (names_made c.drop_redundant.new.items.items c.in_ok-vertices.vertices.items c.in_ok-made.made.items make)

pub returns : goal.returns
returns c =
    let ls = c.args.listings.now in
    let listed = listed_of ls in
    let entries = map entry_of c.args.entries.now in
    let details = named_details ls in
    let own = own_of (map bin_requirement c.args.requirements.now) in
    let said = c.in_ok-items.items.items in
    let items = c.drop_redundant.new.items.items in
    let fs = c.in_ok-made.made.items in
    let last = c.in_ok-features.features.items in
    let deps = c.in_ok-dependencies.dependencies in
    let mentions : Mentions = record { vertices = c.in_ok-vertices.vertices; acted = c.in_ok-acted.acted } in
    let all = told listed (listed_once ls c.requires) entries details own said items mentions fs last deps c.in_ok-items.ensures
    (λ k. c.in_ok-acted.ensures.keys k ∙ ap (λ xs. list_any (acts_on k) (map said_by xs)) c.as_slice.ensures.value)
    (λ k. c.in_ok-acted.ensures.reserved k ∙ ap (λ xs. list_any (reserves k) (map said_by xs)) c.as_slice.ensures.value)
    c.in_ok-vertices.ensures c.in_ok-dependencies.ensures.recorded c.in_ok-drop_redundant.ensures.lost
    (made_of items mentions.vertices.items c.as_slice-2.result.now c.as_slice-vertices.result.now fs c.as_slice-2.ensures.value c.as_slice-vertices.ensures.value c.in_ok-made.ensures)
    c.in_ok-features.ensures.required in
    record { in_order = c.in_ok-features.ensures.in_order; features = all.features; no_enablers = all.no_enablers; dependencies = all.dependencies; targets = all.targets }
