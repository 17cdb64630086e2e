-- What a table holds at its keys after writes, and what it is read as: key by key, and as lists and maps.
use Rattle.cargo_toml_write.proofs.Cited.{All, AllByRecursion, AreEntries, AreItems, AreWritten, Bool, Data, EachValue, Entry, Equal, Err, Error, Global, Greater, IfErr, IfSet, IfSome, Inheritable, Inherited, IsHeld, IsMap, IsReadAgain, IsTrue, IsVersionAgain, IsWriting, Items, Less, List, Members, Memory, None, Ok, Option, Ordering, Parts, Result, Row, Set, Some, String, Value, Way, [], all_of, and_parts, ap, arith, array_of, as_bool, as_str, as_table, boolean, bytes_eq, bytes_eq-Decides}
use Rattle.cargo_toml_write.proofs.Cited.{cases_Bool, each_value, exactly, false, false≢true, free_way, get_member, given_of, has_no_float, if◌then◌else◌, inheritable_of, inheritable_way, inherited_tree, inl, inr, insert_entry, is_among, is_eq, is_eq-slice_cmp, is_nil, is_set_and, item, items_reads, list_of, list_way, map_of, map_way, match_ordering, member, members_of, members_view, nat_cmp, nat_list_cmp_total, no_items, no_members, not, not-true}
use Rattle.cargo_toml_write.proofs.Cited.{option_and_then, option_map, optional_of, ordering_reverse, others_read, put_member, put_some, recursion_from_All, refl, required_of, result_ok, set_or, slice_cmp, string, string_bytes, string_cmp, subst, suc, sym, table_way, text_way, texts_way, tied_itself, true, truth_way, unless, unless_missing, unwrap_or, version_of, version_way, view, without_floats, workspace_flag, zero, ℕ, ◌&&◌, ◌∙◌, ◌∷◌, ◌≡◌}

chosen : (o : Ordering) (a b c : List Entry) → members_view (match_ordering o a b c) ≡ match_ordering o (members_view a) (members_view b) (members_view c)
chosen o a b c = grind arith

pub members_view-insert : (es : List Entry) (k : String Global) (v : Value) → members_view (insert_entry string_cmp es k v) ≡ put_member (string_bytes k) (view v) (members_view es)
members_view-insert [] k v = refl
members_view-insert (e ∷ es) k v = chosen (string_cmp k e.0) _ _ _ ∙ rw (members_view-insert es k v)

same_order : (k l m : List ℕ) → slice_cmp nat_cmp l m ≡ Equal → slice_cmp nat_cmp k m ≡ slice_cmp nat_cmp k l
same_order k l m e =
    nat_list_cmp_total.antisymm k m ∙ ap ordering_reverse (sym (nat_list_cmp_total.congr l m k e)) ∙ sym (nat_list_cmp_total.antisymm k l)

pub passes : (o : Ordering) (r s : Option Data) → is_eq o ≡ false → match_ordering o r s r ≡ r
passes o r s h1 = grind arith

found : (o : Ordering) (r s : Option Data) → is_eq o ≡ true → match_ordering o r s r ≡ s
found o r s h1 = grind arith

-- what a key holds after another key was written
other_at : (o : Ordering) (k l m : List ℕ) (d e : Data) (ms : Members) → o ≡ slice_cmp nat_cmp l m → is_eq (slice_cmp nat_cmp k l) ≡ false
    → get_member k (put_member l d ms) ≡ get_member k ms
    → get_member k (match_ordering o (member l d (member m e ms)) (member m d ms) (member m e (put_member l d ms))) ≡ get_member k (member m e ms)
other_at o k l m d e ms h1 h2 h3 = grind (arith, passes, same_order)

pub get_put-other : (k l : List ℕ) (d : Data) (ms : Members) → is_eq (slice_cmp nat_cmp k l) ≡ false → get_member k (put_member l d ms) ≡ get_member k ms
get_put-other k l d no_members ne = passes (slice_cmp nat_cmp k l) _ _ ne
get_put-other k l d (member m e ms) ne = other_at (slice_cmp nat_cmp l m) k l m d e ms refl ne (get_put-other k l d ms ne)

same_at : (o : Ordering) (k m : List ℕ) (d e : Data) (ms : Members) → o ≡ slice_cmp nat_cmp k m → get_member k (put_member k d ms) ≡ Some d
    → get_member k (match_ordering o (member k d (member m e ms)) (member m d ms) (member m e (put_member k d ms))) ≡ Some d
same_at Less k m d e ms same ih = found (slice_cmp nat_cmp k k) _ _ (ap is_eq (tied_itself nat_list_cmp_total k))
same_at Equal k m d e ms same ih = found (slice_cmp nat_cmp k m) _ _ (ap is_eq (sym same))
same_at Greater k m d e ms same ih = passes (slice_cmp nat_cmp k m) _ _ (ap is_eq (sym same)) ∙ ih

-- what a key holds after it was written
pub get_put-same : (k : List ℕ) (d : Data) (ms : Members) → get_member k (put_member k d ms) ≡ Some d
get_put-same k d no_members = found (slice_cmp nat_cmp k k) _ _ (ap is_eq (tied_itself nat_list_cmp_total k))
get_put-same k d (member m e ms) = same_at (slice_cmp nat_cmp k m) k m d e ms refl (get_put-same k d ms)

pub same_key : (k l : List ℕ) → slice_cmp nat_cmp k l ≡ Equal → k ≡ l
same_key k l h = (bytes_eq-Decides k l).0 (sym (is_eq-slice_cmp k l) ∙ ap is_eq h)

-- two keys of which a test tells one from the other
different : (test : List ℕ → Bool) (b : Bool) (k l : List ℕ) → bytes_eq k l ≡ b → test k ≡ true → test l ≡ false → b ≡ false
different test b k l h1 h2 h3 = grind (arith, bytes_eq-Decides, false≢true)

pub are_apart : (test : List ℕ → Bool) (k l : List ℕ) → test k ≡ true → test l ≡ false → is_eq (slice_cmp nat_cmp k l) ≡ false
are_apart test k l this other = is_eq-slice_cmp k l ∙ different test (bytes_eq k l) k l refl this other

-- what was read of the other keys has them as the table does
some_mapped : {A B : Type 0} (o : Option A) (f : A → B) (y : B) → option_map f o ≡ Some y → (x : A) × (o ≡ Some x) × (f x ≡ y)
some_mapped o f y h1 = grind arith

pub other_member : (names : List (List ℕ)) (k : List ℕ) (ms : Members) (es : List (List ℕ × Data)) → is_among names k ≡ false → others_read names (λ x. Some x) ms ≡ Some es
    → get_member k ms ≡ get_member k (members_of es)
other_member names k no_members es other read = ap (λ (o : Option (List (List ℕ × Data))). get_member k (members_of (unwrap_or o []))) read
other_member names k (member l d ms) es other read = elim (cases_Bool (is_among names l)) [
  | inl named ↦
      passes (slice_cmp nat_cmp k l) _ _ (are_apart (λ x. not (is_among names x)) k l (ap not other) (ap not named)) ∙ other_member names k ms es other (rw named at read)
  | inr apart ↦
      let more = some_mapped (others_read names (λ x. Some x) ms) (λ (xs : List (List ℕ × Data)). (l, d) ∷ xs) es (rw apart at read) in
      ap (λ r. match_ordering (slice_cmp nat_cmp k l) r (Some d) r) (other_member names k ms more.0 other more.1)
      ∙ ap (λ (xs : List (List ℕ × Data)). get_member k (members_of xs)) more.2
]

-- rows of named keys
abbrev pub all_named : List (List ℕ) → List Row → Bool
all_named names [] = true
all_named names (row ∷ rows) = is_among names row.key && all_named names rows

-- which leave the others as they were
module _ {M : Type 0} (names : List (List ℕ)) (reads : Data → Option M) where
  put_others : (o : Ordering) (k l : List ℕ) (d e : Data) (ms : Members) → o ≡ slice_cmp nat_cmp k l → is_among names k ≡ true
      → others_read names reads (put_member k d ms) ≡ others_read names reads ms
      → others_read names reads (match_ordering o (member k d (member l e ms)) (member l d ms) (member l e (put_member k d ms))) ≡ others_read names reads (member l e ms)
  put_others Less k l d e ms same among rest = rw among refl
  put_others Equal k l d e ms same among rest =
      let named : is_among names l ≡ true = subst (λ (x : List ℕ). is_among names x ≡ true) (same_key k l (sym same)) among in
      rw named refl
  put_others Greater k l d e ms same among rest = rw rest refl

  others_put : (k : List ℕ) (d : Data) (ms : Members) → is_among names k ≡ true → others_read names reads (put_member k d ms) ≡ others_read names reads ms
  others_put k d no_members among = rw among refl
  others_put k d (member l e ms) among = put_others (slice_cmp nat_cmp k l) k l d e ms refl among (others_put k d ms among)

  others_some : (k : List ℕ) (o : Option Data) (ms : Members) → is_among names k ≡ true → others_read names reads (put_some k o ms) ≡ others_read names reads ms
  others_some k o ms h1 = grind (arith, others_put)

  pub others_rows : (rows : List Row) (old new : Members) → all_named names rows ≡ true → AreWritten rows old new → others_read names reads new ≡ others_read names reads old
  others_rows [] old new named written = ap (others_read names reads) written
  others_rows (row ∷ rows) old new named (d, held, rest) =
      let parts : (is_among names row.key ≡ true) × (all_named names rows ≡ true) = and_parts _ _ named in
      others_rows rows (put_some row.key d old) new parts.1 rest ∙ others_some row.key d old parts.0

-- a tree of what is there stands at a key, and nothing where nothing is
pub record StandsAt {X : Type 0} (o : Option Data) (way : Way X) (x : Option X) : Type 0 where
  pub is : IsHeld way x o

abbrev pub AllHeld : List Row → Members → Type 0
AllHeld [] ms = Unit {0}
AllHeld (row ∷ rows) ms = StandsAt (get_member row.key ms) row.way row.value × AllHeld rows ms

-- the same of n rows, where one past the end says nothing
abbrev pub FirstHeld : ℕ → List Row → Members → Type 0
FirstHeld zero rows ms = Unit {0}
FirstHeld (suc n) [] ms = Unit {0} × FirstHeld n [] ms
FirstHeld (suc n) (row ∷ rows) ms = StandsAt (get_member row.key ms) row.way row.value × FirstHeld n rows ms

pub first_held : (n : ℕ) (rows : List Row) (ms : Members) → AllHeld rows ms → FirstHeld n rows ms
first_held zero rows ms held = tt
first_held (suc n) [] ms held = (tt, first_held n [] ms tt)
first_held (suc n) (row ∷ rows) ms held = (held.0, first_held n rows ms held.1)

-- the keys of rows, and that they differ
abbrev pub row_keys : List Row → List (List ℕ)
row_keys [] = []
row_keys (row ∷ rows) = row.key ∷ row_keys rows

abbrev pub differ : List (List ℕ) → Bool
differ [] = true
differ (k ∷ ks) = not (is_among ks k) && differ ks

-- nothing stands at their keys
abbrev pub AllMissing : List (List ℕ) → Members → Type 0
AllMissing [] ms = Unit {0}
AllMissing (k ∷ ks) ms = (get_member k ms ≡ None) × AllMissing ks ms

pub none_there : (ks : List (List ℕ)) → AllMissing ks no_members
none_there [] = tt
none_there (k ∷ ks) = (refl, none_there ks)

-- a key that is none of some others is apart from each
apart : (k l : List ℕ) → bytes_eq l k ≡ false → is_eq (slice_cmp nat_cmp k l) ≡ false
apart k l h = are_apart (λ x. not (bytes_eq l x)) k l (ap not h) (ap not ((bytes_eq-Decides l l).1 refl))

either_false : (b c : Bool) → (if b then true else c) ≡ false → (b ≡ false) × (c ≡ false)
either_false b c h1 = grind arith

put_other : (k l : List ℕ) (d : Option Data) (ms : Members) → is_eq (slice_cmp nat_cmp k l) ≡ false → get_member k (put_some l d ms) ≡ get_member k ms
put_other k l d ms h1 = grind (arith, get_put-other)

put_same : (k : List ℕ) (d : Option Data) (ms : Members) → get_member k ms ≡ None → get_member k (put_some k d ms) ≡ d
put_same k d ms h1 = grind (arith, get_put-same)

-- which rows leave as it was
pub untouched : (k : List ℕ) (rows : List Row) (old new : Members) → is_among (row_keys rows) k ≡ false → AreWritten rows old new → get_member k new ≡ get_member k old
untouched k [] old new other is = ap (get_member k) is
untouched k (row ∷ rows) old new other (d, held, rest) =
    let parts = either_false (bytes_eq row.key k) (is_among (row_keys rows) k) other in
    untouched k rows (put_some row.key d old) new parts.1 rest ∙ put_other k row.key d old (apart k row.key parts.0)

still_missing : (k : List ℕ) (d : Option Data) (ks : List (List ℕ)) (ms : Members) → is_among ks k ≡ false → AllMissing ks ms → AllMissing ks (put_some k d ms)
still_missing k d [] ms other missing = tt
still_missing k d (l ∷ ks) ms other missing =
    let parts = either_false (bytes_eq l k) (is_among ks k) other in
    (put_other l k d ms (is_eq-slice_cmp l k ∙ parts.0) ∙ missing.0, still_missing k d ks ms parts.1 missing.1)

-- rows of keys that differ, where nothing stood at these
pub all_held : (rows : List Row) (old new : Members) → differ (row_keys rows) ≡ true → AllMissing (row_keys rows) old → AreWritten rows old new → AllHeld rows new
all_held [] old new apart missing written = tt
all_held (row ∷ rows) old new apart missing (d, held, rest) =
    let parts = and_parts _ _ apart in
    let other : is_among (row_keys rows) row.key ≡ false = not-true _ parts.0 in
    let here : get_member row.key new ≡ d = untouched row.key rows (put_some row.key d old) new other rest ∙ put_same row.key d old missing.0 in (
      record { is = subst (IsHeld row.way row.value) (sym here) held },
      all_held rows (put_some row.key d old) new parts.1 (still_missing row.key d (row_keys rows) old other missing.1) rest,
    )

pub whole : (rows : List Row) (ms : Members) → differ (row_keys rows) ≡ true → AreWritten rows no_members ms → AllHeld rows ms
whole rows ms apart written = all_held rows no_members ms apart (none_there (row_keys rows)) written

-- every tree of a value reads as m
abbrev pub ReadsAs : {X M : Type 0} → Way X → (Data → Option M) → X → M → Type 0
ReadsAs way reads x m = (d : Data) → way.trees x d → reads d ≡ Some m

-- a value that is such reads as f of it; any value reads as itself
pub record AgainAs {X M : Type 0} (way : Way X) (reads : Data → Option M) (P : X → Type 0) (f : X → M) : Type 0 where
  pub each : (x : X) → P x → ReadsAs way reads x (f x)

abbrev pub Any : {X : Type 0} → X → Type 0
Any x = Unit {0}

abbrev pub Again : {X : Type 0} → Way X → (Data → Option X) → Type 0
Again {X = X} way reads = AgainAs way reads Any (λ (x : X). x)

pub again : {X : Type 0} {way : Way X} {reads : Data → Option X} → ((x : X) → ReadsAs way reads x x) → Again way reads
again each = record { each = λ x h. each x }

-- where such a value is left out, a missing key stands for it
pub record StandsFor {X M : Type 0} (left_out : X → Bool) (P : X → Type 0) (f : X → M) (missing : M) : Type 0 where
  pub each : (x : X) → P x → left_out x ≡ true → f x ≡ missing

-- what was written holds no float, so the public reader reads it as the reader itself does
pub floatless_again : {M : Type 0} (reads : Data → Option M) (d : Data) (m : M) → IsTrue (has_no_float d) → reads d ≡ Some m → without_floats reads d ≡ Some m
floatless_again reads d m h1 h2 = grind arith

-- each tree of a value reads as m: so does the one that was written
pub tree_again : {X M : Type 0} (way : Way X) (x : X) (reads : Data → Option M) (m : M) (r : Result Value Error) → IsWriting way x r → ReadsAs way reads x m → IsReadAgain reads m r
tree_again way x reads m (Ok v) tree reads_as = floatless_again reads (view v) m ((way.lawful x).floatless (view v) tree) (reads_as (view v) tree)
tree_again way x reads m (Err e) fault reads_as = tt

pub reads_again : {X M : Type 0} {way : Way X} {reads : Data → Option M} {P : X → Type 0} {f : X → M} → AgainAs way reads P f → (x : X) (r : Result Value Error) → IsWriting way x r → P x → IsReadAgain reads (f x) r
reads_again {way = way} {reads = reads} {f = f} law x r written h = tree_again way x reads (f x) r written (law.each x h)

-- a value that is as asked is refused with `Memory` alone
pub alone : {X : Type 0} (way : Way X) (x : X) (r : Result Value Error) → IsWriting way x r → way.asks x → IfErr r (λ e. e ≡ Memory)
alone way x (Ok v) written asked = tt
alone way x (Err e) (inl memory) asked = memory
alone way x (Err e) (inr refused) asked = absurd ((way.lawful x).never asked e refused.1)

-- a step of a reader, by what stands at its key, and what follows it
pub step : {A B : Type 0} (o : Option A) (f : A → Option B) (x : A) (r : Option B) → o ≡ Some x → f x ≡ r → option_and_then f o ≡ r
step o f x r e h = rw e h

module _ {X M N : Type 0} {way : Way X} {reads : Data → Option M} {P : X → Type 0} {g : X → M} (o : Option Data) (r : Option N) where
  given_at : (b : Bool) (x : X) (missing : M) (o : Option Data) → AgainAs way reads P g → P x → (b ≡ true → g x ≡ missing) → IsHeld way (unless b x) o → given_of reads missing o ≡ Some (g x)
  given_at b x missing o h1 h2 h3 h4 = grind arith

  pub required : (x : X) → StandsAt o way (Some x) → AgainAs way reads P g → P x → required_of reads o ≡ Some (g x)
  required x held law h = grind arith

  pub required_read : (x : X) (f : M → Option N) → StandsAt o way (Some x) → AgainAs way reads P g → P x → f (g x) ≡ r → option_and_then f (required_of reads o) ≡ r
  required_read x f held law h rest = step (required_of reads o) f (g x) r (required x held law h) rest

  pub given : (x : X) (missing : M) → StandsAt o way (unless (way.left_out x) x) → AgainAs way reads P g → P x → StandsFor way.left_out P g missing → given_of reads missing o ≡ Some (g x)
  given x missing held law h stands = given_at (way.left_out x) x missing o law h (stands.each x h) held.is

  pub given_read : (b : Bool) (x : X) (missing : M) (f : M → Option N) → StandsAt o way (unless b x) → b ≡ way.left_out x → AgainAs way reads P g → P x → StandsFor way.left_out P g missing → f (g x) ≡ r → option_and_then f (given_of reads missing o) ≡ r
  given_read b x missing f held left law h stands rest = step (given_of reads missing o) f (g x) r (given_at b x missing o law h (λ e. stands.each x h (sym left ∙ e)) held.is) rest

  -- what is always written, and may be missing
  pub always_read : (x : X) (missing : M) (f : M → Option N) → StandsAt o way (Some x) → AgainAs way reads P g → P x → f (g x) ≡ r → option_and_then f (given_of reads missing o) ≡ r
  always_read x missing f held law h rest = step (given_of reads missing o) f (g x) r (given_at false x missing o law h (λ e. absurd (false≢true e)) held.is) rest

module _ {X N : Type 0} {way : Way X} {reads : Data → Option X} {P : X → Type 0} (o : Option Data) (r : Option N) where
  optional : (x : Option X) (o : Option Data) → AgainAs way reads P (λ (y : X). y) → IfSome x P → IsHeld way x o → optional_of reads o ≡ Some x
  optional x o h1 h2 h3 = grind arith

  pub optional_read : (x : Option X) (f : Option X → Option N) → StandsAt o way x → AgainAs way reads P (λ (y : X). y) → IfSome x P → f x ≡ r → option_and_then f (optional_of reads o) ≡ r
  optional_read x f held law h rest = step (optional_of reads o) f x r (optional x o law h held.is) rest

pub flagged : (missing b : Bool) (o : Option Data) → StandsAt o truth_way (unless_missing missing b) → given_of as_bool missing o ≡ Some b
flagged missing b o held = grind arith

pub flag_read : {M : Type 0} (o : Option Data) (r : Option M) (missing b : Bool) (f : Bool → Option M) → StandsAt o truth_way (unless_missing missing b) → f b ≡ r → option_and_then f (given_of as_bool missing o) ≡ r
flag_read o r missing b f held rest = step (given_of as_bool missing o) f b r (flagged missing b o held) rest

-- of any value nothing is asked
pub if_any : {X : Type 0} (x : Option X) → IfSome x (Any {X = X})
if_any x = grind arith

pub set_any : {X : Type 0} (x : Inheritable X) → IfSet (Any {X = X}) x
set_any x = grind arith

pub if_set_any : {X : Type 0} (x : Option (Inheritable X)) → IfSome x (IfSet (Any {X = X}))
if_set_any x = grind (arith, set_any)

pub ruleset read_back = (required_read, optional_read, flag_read, given_read, always_read, if_any, set_any, if_set_any)

-- a table of rows whose keys differ
pub table_again : {X : Type 0} (rows : X → List Row) (of : Members → Option X) → ((x : X) → differ (row_keys (rows x)) ≡ true)
    → ((x : X) (ms : Members) → AreWritten (rows x) no_members ms → AllHeld (rows x) ms → of ms ≡ Some x)
    → (x : X) → ReadsAs (table_way rows) (λ d. option_and_then of (as_table d)) x x
table_again rows of h1 h2 h3 h4 h5 = grind (arith, whole)

-- texts, truth values, free values, versions and lists
pub same_tree : {X : Type 0} (tree : X → Data) (h : (x : X) → IsTrue (has_no_float (tree x))) (reads : Data → Option X) → ((x : X) → reads (tree x) ≡ Some x) → Again (exactly tree h) reads
same_tree tree h reads same = again (λ x d is. ap reads is ∙ same x)

pub text_again : Again text_way as_str
text_again = same_tree string (λ t. refl) as_str (λ t. refl)

pub truth_again : Again truth_way as_bool
truth_again = same_tree boolean (λ b. refl) as_bool (λ b. refl)

pub free_again : Again free_way (λ d. Some d)
free_again = again (λ x d is. ap Some is.1)

pub version_again : AgainAs version_way version_of IsVersionAgain (λ (v : Parts). v)
version_again = record { each = λ v h d is. ap version_of is ∙ ap result_ok h }

items_again : {X : Type 0} (way : Way X) (reads : Data → Option X) → Again way reads → (xs : List X) (ds : Items) → AreItems way xs ds → items_reads reads ds ≡ Some xs
items_again way reads law [] no_items is = refl
items_again way reads law (x ∷ xs) (item d ds) (here, rest) = rw (law.each x tt d here, items_again way reads law xs ds rest) refl
items_again way reads law _ _ is = absurd is

pub list_again : {X : Type 0} (way : Way X) (reads : Data → Option X) → Again way reads → Again (list_way way) (array_of reads)
list_again way reads law = again (λ xs d (ds, is, items). ap (array_of reads) is ∙ items_again way reads law xs ds items)

pub texts_again : Again texts_way list_of
texts_again = list_again text_way as_str text_again

pub nil_left : {X : Type 0} (xs : List X) → is_nil xs ≡ true → xs ≡ []
nil_left [] h = refl
nil_left (x ∷ xs) h = absurd cc

pub nil : {X : Type 0} {P : List X → Type 0} → StandsFor (λ (xs : List X). is_nil xs) P (λ (xs : List X). xs) []
nil = record { each = λ xs h none. nil_left xs none }

-- what the workspace may give
set_or_inherited : {X : Type 0} (way : Way X) (reads : Data → Option X) (P : X → Type 0) → AgainAs way reads P (λ (x : X). x) → reads inherited_tree ≡ None → (x : Inheritable X) → IfSet P x → ReadsAs (inheritable_way way) (inheritable_of reads) x x
set_or_inherited {X = X} way reads P law none (Set x) h d tree = ap (λ (o : Option X). set_or o (workspace_flag d)) (law.each x h d tree)
set_or_inherited {X = X} way reads P law none Inherited h d is = ap (inheritable_of reads) is ∙ ap (λ (o : Option X). set_or o (workspace_flag inherited_tree)) none

pub inheritable_again : {X : Type 0} {way : Way X} {reads : Data → Option X} {P : X → Type 0} → AgainAs way reads P (λ (x : X). x) → reads inherited_tree ≡ None
    → AgainAs (inheritable_way way) (inheritable_of reads) (IfSet P) (λ (x : Inheritable X). x)
inheritable_again {way = way} {reads = reads} {P = P} law none = record { each = set_or_inherited way reads P law none }

set_left : {X : Type 0} (P : X → Type 0) (test : X → Bool) (missing : X) → StandsFor test P (λ (x : X). x) missing → (x : Inheritable X) → IfSet P x → is_set_and test x ≡ true → x ≡ Set missing
set_left P test missing h1 h2 h3 h4 = grind arith

pub set_stands : {X : Type 0} {P : X → Type 0} (test : X → Bool) (missing : X) → StandsFor test P (λ (x : X). x) missing → StandsFor (is_set_and test) (IfSet P) (λ (x : Inheritable X). x) (Set missing)
set_stands {P = P} test missing stands = record { each = set_left P test missing stands }

-- a map is read again, where each value is; and so are known keys that are put over its entries
-- entries of which no key is one of the names
abbrev pub AreOthers : {X : Type 0} → List (List ℕ) → List (List ℕ × X) → Type 0
AreOthers {X = X} names es = AllByRecursion (λ (e : List ℕ × X). is_among names e.0 ≡ false) es

none_named : {X : Type 0} (es : List (List ℕ × X)) → AreOthers [] es
none_named [] = tt
none_named (e ∷ es) = (refl, none_named es)

pub each_same : {X : Type 0} (es : List (List ℕ × X)) → each_value (λ x. x) es ≡ es
each_same [] = refl
each_same (e ∷ es) = ap (λ xs. e ∷ xs) (each_same es)

-- what is read of entries, of other names than some
entries_read : {X M : Type 0} (way : Way X) (reads : Data → Option M) (f : X → M) (P : X → Type 0) (names : List (List ℕ)) → ((x : X) → P x → ReadsAs way reads x (f x))
    → (es : List (List ℕ × X)) (ms : Members) → AreOthers names es → AllByRecursion (λ (e : List ℕ × X). P e.1) es → AreEntries way es ms → others_read names reads ms ≡ Some (each_value f es)
entries_read way reads f P names again [] no_members others all are = refl
entries_read way reads f P names again (e ∷ es) (member k d ms) others all are =
    rw (are.0, others.0, again e.1 all.0 d are.1, entries_read way reads f P names again es ms others.1 all.1 are.2) refl
entries_read way reads f P names again _ _ others all are = absurd are

pub map_again : {X M : Type 0} (way : Way X) (reads : Data → Option M) (f : X → M) (P : X → Type 0) → ((x : X) → P x → ReadsAs way reads x (f x))
    → (es : List (List ℕ × X)) → EachValue P es → ReadsAs (map_way way) (map_of reads) es (each_value f es)
map_again {X = X} way reads f P again es all d (ms, is, map) =
    ap (map_of reads) is ∙ entries_read way reads f P [] again es ms (none_named es) (recursion_from_All (λ (e : List ℕ × X). P e.1) es all) map.1

-- a named key is in no entry
entries_miss : {X : Type 0} (way : Way X) (names : List (List ℕ)) (k : List ℕ) (es : List (List ℕ × X)) (ms : Members) → is_among names k ≡ true → AreOthers names es → AreEntries way es ms → get_member k ms ≡ None
entries_miss way names k [] no_members named others are = refl
entries_miss way names k (e ∷ es) (member l d ms) named others are =
    rw are.0 (passes (slice_cmp nat_cmp k e.0) _ _ (are_apart (is_among names) k e.0 named others.0) ∙ entries_miss way names k es ms named others.1 are.2)
entries_miss way names k _ _ named others are = absurd are

all_missing : {X : Type 0} (way : Way X) (names : List (List ℕ)) (es : List (List ℕ × X)) (known : List Row) (old : Members) → all_named names known ≡ true → AreOthers names es → AreEntries way es old → AllMissing (row_keys known) old
all_missing way names es [] old named others are = tt
all_missing way names es (row ∷ known) old named others are =
    let parts = and_parts _ _ named in
    (entries_miss way names row.key es old parts.0 others are, all_missing way names es known old parts.1 others are)

-- entries of other keys than some names, over which known rows of these names are put: what is read of both
pub collected : {X : Type 0} (way : Way X) (reads : Data → Option X) (names : List (List ℕ)) (es : List (List ℕ × X)) (known : List Row) (old ms : Members) → Again way reads → All (λ (e : List ℕ × X). is_among names e.0 ≡ false) es
    → IsMap way es old → all_named names known ≡ true → differ (row_keys known) ≡ true → AreWritten known old ms → AllHeld known ms × (others_read names reads ms ≡ Some es)
collected {X = X} way reads names es known old ms law apart map named distinct written =
    let others : AreOthers names es = recursion_from_All (λ (e : List ℕ × X). is_among names e.0 ≡ false) es apart in (
      all_held known old ms distinct (all_missing way names es known old named others map.1) written,
      others_rows names reads known old ms named written
          ∙ entries_read way reads (λ x. x) (λ (x : X). Unit {0}) names law.each es old others (recursion_from_All (λ (e : List ℕ × X). Unit {0}) es (all_of (λ (e : List ℕ × X). Unit {0}) (λ e. tt) es)) map.1 ∙ ap Some (each_same es),
    )

-- maps
pub map_as : {X M : Type 0} {way : Way X} {reads : Data → Option M} {P : X → Type 0} {f : X → M} → AgainAs way reads P f → AgainAs (map_way way) (map_of reads) (EachValue P) (each_value f)
map_as {way = way} {reads = reads} {P = P} {f = f} law = record { each = map_again way reads f P law.each }

pub map_same : {X : Type 0} {way : Way X} {reads : Data → Option X} {P : X → Type 0} → AgainAs way reads P (λ (x : X). x) → AgainAs (map_way way) (map_of reads) (EachValue P) (λ (es : List (List ℕ × X)). es)
map_same law = record { each = λ es all d tree. (map_as law).each es all d tree ∙ ap Some (each_same es) }

pub map_any : {X : Type 0} {way : Way X} {reads : Data → Option X} → Again way reads → Again (map_way way) (map_of reads)
map_any {X = X} law = again (λ es. (map_same law).each es (all_of (λ (e : List ℕ × X). Unit {0}) (λ e. tt) es))

pub free_maps : Again (map_way free_way) (map_of (λ d. Some d))
free_maps = map_any free_again

pub nil_map : {X M : Type 0} {P : List (List ℕ × X) → Type 0} (f : X → M) → StandsFor (λ (es : List (List ℕ × X)). is_nil es) P (each_value f) []
nil_map f = record { each = λ es h none. ap (each_value f) (nil_left es none) }
