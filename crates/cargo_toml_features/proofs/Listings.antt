-- The names of a table, in byte order and each once, and those of a hashed one.
use Rattle.cargo_toml_features.proofs.Cited.{AllByRecursion, Ascend, Ascends, BTreeMap, Bool, Bor, Detail, FeatureDetail, Global, HashMap, IsStrictlySortedBy, Less, List, Listed, Listing, None, Option, Some, String, T, Text, Vec, [], actions_at, ap, ap₂, arith, below_all, btree_map_updates_str, bytes_eq, bytes_eq-Decides, bytes_eq_sym, common_steps, cond, deref_pair, detail_in, detail_named, detail_of, exact_bytes, false, get_by, is_at, is_eq-slice_cmp, is_some}
use Rattle.cargo_toml_features.proofs.Cited.{is_some-lookup, is_sorted, list_any, list_any-append, listed_of, lookup, map, map-append, map_meaning, nat_cmp, nat_list_cmp_total, option_copied, option_map, or-false, or_right, plain_detail, refl, same_entries, slice_cmp, sorted_actions_at, string_bytes, string_cmp, subst, sym, texts_ascend, true, unwrap_or, ◌++◌, ◌||◌, ◌∙◌, ◌∷◌, ◌≡◌}
use Rattle.std.specs.FinMap.Entries.{find}
use Rattle.std.specs.BTreeMap as tree

-- the order of keys is the byte order of the names that they list
pub listed_ascend : {K V : Type 0} (text : K → Text) (list : V → List Text) (es : List (K × V)) → IsStrictlySortedBy (λ (x y : K). slice_cmp nat_cmp (text x) (text y)) (map (λ e. e.0) es)
    → Ascends (map (λ e. (text e.0, list e.1)) es)
listed_ascend {K} {V} text list es up = subst Ascend (same es) (texts_ascend text (map (λ (e : K × V). e.0) es) up)
  where
    same : (ds : List (K × V)) → map text (map (λ (d : K × V). d.0) ds) ≡ map (λ (d : Text × List Text). d.0) (map (λ (d : K × V). (text d.0, list d.1)) ds)
    same [] = refl
    same (d ∷ ds) = ap (λ ts. text d.0 ∷ ts) (same ds)

-- a name is looked up by bytes or in their order
pub by_bytes : (f : Text) (ls : Listed) → lookup (bytes_eq f) ls ≡ find (slice_cmp nat_cmp) f ls
by_bytes f [] = refl
by_bytes f (e ∷ ls) = ap₂ (λ b o. cond b (Some e.1) o) (sym (is_eq-slice_cmp f e.0)) (by_bytes f ls)

below : (k : Text) (ls : Listed) → AllByRecursion (λ y. slice_cmp nat_cmp k y ≡ Less) (map (λ e. e.0) ls) → T (below_all (slice_cmp nat_cmp) k ls)
below k [] h = tt
below k (e ∷ ls) h = grind (arith, common_steps, below k ls h.1)

rises : (ls : Listed) → Ascends ls → T (is_sorted (slice_cmp nat_cmp) ls)
unfolding IsStrictlySortedBy
rises [] h = tt
rises (e ∷ ls) h = grind (arith, common_steps, below e.0 ls h.0, rises ls h.1)

pub one_listing : (a b : Listed) → Ascends a → Ascends b → ((f : Text) → lookup (bytes_eq f) a ≡ lookup (bytes_eq f) b) → a ≡ b
one_listing a b up vp h = same_entries (slice_cmp nat_cmp) nat_list_cmp_total exact_bytes a b (rises a up) (rises b vp) (λ f. sym (by_bytes f a) ∙ h f ∙ by_bytes f b)

abbrev Owned : Type 0
Owned = String Global × Vec (String Global) Global

-- what an entry of a table lists
abbrev pub listed_entry : Owned → Text × List Text
listed_entry e = (string_bytes e.0, map string_bytes e.1.items)

-- the order of a table's keys is the byte order of the names that it lists
pub ascending : (es : List Owned) → IsStrictlySortedBy string_cmp (map (λ e. e.0) es) → Ascends (map listed_entry es)
ascending es up = listed_ascend string_bytes (λ v. map string_bytes v.items) es up

-- what a listing lists
abbrev pub listed_one : Listing → Text × List Text
listed_one l = (l.name.now, map string_bytes l.actions.now)

-- what it says beside
abbrev pub detail_of_one : Listing → Text × Detail
detail_of_one l = (l.name.now, detail_in l.detail)

pub names_listed : (ls : List Listing) → map (λ e. e.0) (listed_of ls) ≡ map (λ l. l.name.now) ls
names_listed [] = refl
names_listed (l ∷ ls) = ap (λ xs. l.name.now ∷ xs) (names_listed ls)

-- the detail that a map has of a name
detail_among : (f : Text) (es : List (String Global × FeatureDetail))
    → detail_named (map (λ e. (string_bytes e.0, detail_of e.1)) es) f ≡ unwrap_or (option_map detail_of (lookup (is_at (λ k. slice_cmp nat_cmp f (string_bytes k))) es)) plain_detail
detail_among f [] = refl
detail_among f (e ∷ es) = grind (arith, common_steps, string_bytes, is_eq-slice_cmp, detail_among f es)

detail_copied : (o : Option (Bor FeatureDetail)) → detail_in o ≡ unwrap_or (option_map detail_of (option_copied o)) plain_detail
detail_copied v0 = grind (arith, common_steps)

-- and so the look-up in the map gives it
pub detail_found : (f : Text) (m : BTreeMap (String Global) FeatureDetail) (o : Option (Bor FeatureDetail)) → option_copied o ≡ get_by (λ k. slice_cmp nat_cmp f (string_bytes k)) m
    → detail_in o ≡ detail_named (map_meaning detail_of m) f
detail_found f m o is = detail_copied o ∙ ap (λ d. unwrap_or (option_map detail_of d) plain_detail) is ∙ sym (detail_among f m.entries)

-- ---- a hashed table, put in order one name after another
abbrev Walked : Type 0
Walked = List (Bor (String Global) × Bor (Vec (String Global) Global))

abbrev Sorted : Type 0
Sorted = BTreeMap (Bor Text) (Bor (List (String Global)))

abbrev pub is_walked : Walked → Text → Bool
is_walked yielded f = list_any (λ (k : String Global). bytes_eq f (string_bytes k)) (map (λ e. e.0.now) yielded)

-- what has been put so far
abbrev pub IsPut : {S : Type 0} → HashMap (String Global) (Vec (String Global) Global) S → Walked → Sorted → Type 0
IsPut m yielded sorted = (f : Text) → sorted_actions_at sorted f ≡ cond (is_walked yielded f) (actions_at m f) None

walked_more : (yielded : Walked) (k : Bor (String Global)) (v : Bor (Vec (String Global) Global)) (f : Text) → is_walked (yielded ++ (k, v) ∷ []) f ≡ (is_walked yielded f || bytes_eq f (string_bytes k.now))
walked_more yielded k v f = grind (arith, common_steps, string_bytes, map-append, list_any-append, or-false)

module _ {S : Type 0} (m : HashMap (String Global) (Vec (String Global) Global) S) where
  pub one_put : (yielded : Walked) (k : Bor (String Global)) (v : Bor (Vec (String Global) Global)) (name : Bor Text) (actions : Bor (List (String Global))) (a b : Sorted) → name.now ≡ string_bytes k.now → actions.now ≡ v.now.items
      → actions_at m (string_bytes k.now) ≡ Some (map string_bytes v.now.items) → tree.UpdatesBy (λ x y. slice_cmp nat_cmp x.now y.now) (λ q. slice_cmp nat_cmp name.now q.now) a b (Some actions)
      → IsPut m yielded a → IsPut m (yielded ++ (k, v) ∷ []) b
  one_put yielded k v name actions a b named acted there u h f =
      ap (option_map (λ (x : Bor (List (String Global))). map string_bytes x.now)) (btree_map_updates_str name.now a b (Some actions) u f)
      ∙ go (bytes_eq name.now f) refl
      ∙ sym (ap (λ t. cond t (actions_at m f) None) (walked_more yielded k v f))
    where
      turned : bytes_eq f (string_bytes k.now) ≡ bytes_eq name.now f
      turned = ap (bytes_eq f) (sym named) ∙ bytes_eq_sym f name.now

      go : (t : Bool) → bytes_eq name.now f ≡ t → option_map (λ (x : Bor (List (String Global))). map string_bytes x.now) (cond (bytes_eq name.now f) (Some actions) (tree.get_by (λ q. slice_cmp nat_cmp f q.now) a))
          ≡ cond (is_walked yielded f || bytes_eq f (string_bytes k.now)) (actions_at m f) None
      go true on =
          ap (λ t. option_map (λ (x : Bor (List (String Global))). map string_bytes x.now) (cond t (Some actions) (tree.get_by (λ q. slice_cmp nat_cmp f q.now) a))) on
          ∙ ap (λ xs. Some (map string_bytes xs)) acted ∙ sym there ∙ ap (actions_at m) (sym named ∙ (bytes_eq-Decides name.now f).0 on)
          ∙ sym (ap (λ t. cond t (actions_at m f) None) (or_right _ _ (turned ∙ on)))
      go false off =
          ap (λ t. option_map (λ (x : Bor (List (String Global))). map string_bytes x.now) (cond t (Some actions) (tree.get_by (λ q. slice_cmp nat_cmp f q.now) a))) off
          ∙ h f ∙ sym (ap (λ t. cond (is_walked yielded f || t) (actions_at m f) None) (turned ∙ off) ∙ ap (λ t. cond t (actions_at m f) None) (or-false _))

  keys_shown : (xs : Walked) → map (λ e. e.0.now) xs ≡ map (λ (e : String Global × Vec (String Global) Global). e.0) (map deref_pair xs)
  keys_shown [] = refl
  keys_shown (x ∷ xs) = ap (λ ys. x.0.now ∷ ys) (keys_shown xs)

  -- once all have had their turn
  pub all_put : (yielded : Walked) (sorted : Sorted) → map deref_pair yielded ≡ m.entries → IsPut m yielded sorted → (f : Text) → sorted_actions_at sorted f ≡ actions_at m f
  all_put yielded sorted all h f =
      h f
      ∙ ap (λ ks. cond (list_any (λ (k : String Global). bytes_eq f (string_bytes k)) ks) (actions_at m f) None) (keys_shown yielded ∙ ap (map (λ (e : String Global × Vec (String Global) Global). e.0)) all)
      ∙ ap (λ t. cond t (actions_at m f) None) (sym (is_some-lookup (λ (k : String Global). bytes_eq f (string_bytes k)) m.entries))
      ∙ go (lookup (λ (k : String Global). bytes_eq f (string_bytes k)) m.entries)
    where
      go : (o : Option (Vec (String Global) Global)) → cond (is_some o) (option_map (λ v. map string_bytes v.items) o) None ≡ option_map (λ v. map string_bytes v.items) o
      go None = refl
      go (Some v) = refl

-- what an entry of the sorted table lists
abbrev pub sorted_entry : Bor Text × Bor (List (String Global)) → Text × List Text
sorted_entry e = (e.0.now, map string_bytes e.1.now)

-- looking a name up in what is listed is looking it up in the table
pub looked_up : (f : Text) (es : List (Bor Text × Bor (List (String Global)))) → lookup (bytes_eq f) (map sorted_entry es) ≡ option_map (λ v. map string_bytes v.now) (lookup (is_at (λ k. slice_cmp nat_cmp f k.now)) es)
looked_up f [] = refl
looked_up f (e ∷ es) = grind (arith, common_steps, string_bytes, is_eq-slice_cmp, looked_up f es)

-- the order of the table is the byte order of the names
pub sorted_ascends : (es : List (Bor Text × Bor (List (String Global)))) → IsStrictlySortedBy (λ x y. slice_cmp nat_cmp x.now y.now) (map (λ e. e.0) es) → Ascends (map sorted_entry es)
sorted_ascends es up = listed_ascend (λ k. k.now) (λ v. map string_bytes v.now) es up
