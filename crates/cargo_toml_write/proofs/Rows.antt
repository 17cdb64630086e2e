-- Rows, lists and maps that are written one after the other, and features each with what is said of it.
use Rattle.cargo_toml_write.proofs.Cited.{AreEntries, AreItems, AreWritten, Ascend, BTreeMap, Begins, Bool, Data, Detail, EntriesRefused, Entry, Err, Error, FeatureDetail, Global, IsMap, IsStrictlySortedBy, IsWriting, ItemsRefused, List, Members, Memory, None, Option, Result, Row, Some, String, Value, Vec, Way, WritesFrom, WritingEnds, [], ap, append-nil, append_assoc, arith, array, ascend-keys, bytes_eq, cond, detail_of, detail_under, drop, drop_more, false, get_by, get_or, inl, inr, is_at}
use Rattle.cargo_toml_write.proofs.Cited.{is_eq-slice_cmp, is_some, items_view, keys_of, length, list_way, lookup, map, map_meaning, member, members_view, nat_cmp, no_members, option_map, option_map_id, optional_row, over_way, pairs_meaning, put_member, put_some, refl, required_row, slice_cmp, string_bytes, string_cmp, subst, sym, table_view, table_way, told_features, view, ℕ, ◌++◌, ◌+◌, ◌<◌, ◌∙◌, ◌∷◌, ◌≡◌, ◌⊎◌}

-- a row and then others
row_then : (row : Row) (rows : List Row) (a b c : Option Error) (old mid new : Members) → WritesFrom (row ∷ []) a old b mid → WritesFrom rows b mid c new → WritesFrom (row ∷ rows) a old c new
unfolding WritesFrom
row_then row rows a b c old mid new h1 h2 = grind arith

-- the same as a record, of which a chain of rows is made without its arguments
pub record Steps (rows : List Row) (a : Option Error) (old : Members) (b : Option Error) (new : Members) : Type 0 where
  pub goes : WritesFrom rows a old b new

infixr 20 ◌then◌
infixr 20 ◌then_same◌
-- a row, and then others; and no more rows
pub ◌then◌ : {row : Row} {rows : List Row} {a b c : Option Error} {old mid new : Members} → WritesFrom (row ∷ []) a old b mid → Steps rows b mid c new → Steps (row ∷ rows) a old c new
first then rest = record { goes = row_then _ _ _ _ _ _ _ _ first rest.goes }

nothing_more : (a : Option Error) (ms : Members) → WritesFrom [] a ms a ms
unfolding WritesFrom
nothing_more a ms = grind arith

pub done : {a : Option Error} {ms : Members} → Steps [] a ms a ms
done = record { goes = nothing_more _ _ }

-- rows are written as those of them are that hold something
abbrev with_present : {X : Type 0} → List ℕ → Way X → Option X → List Row → List Row
with_present key way None rows = rows
with_present key way (Some x) rows = required_row key way x ∷ rows

abbrev pub present : List Row → List Row
present [] = []
present (row ∷ rows) = with_present row.key row.way row.value (present rows)

one_written : {X : Type 0} (key : List ℕ) (way : Way X) (x : Option X) (rows some : List Row) (old new : Members) → ((mid : Members) → AreWritten some mid new → AreWritten rows mid new)
    → AreWritten (with_present key way x some) old new → AreWritten (optional_row key way x ∷ rows) old new
one_written key way None rows some old new more written = (None, refl, more old written)
one_written key way (Some x) rows some old new more (d, held, rest) = (d, held, more (put_some key d old) rest)

pub all_written : (rows : List Row) (old new : Members) → AreWritten (present rows) old new → AreWritten rows old new
all_written [] old new written = written
all_written (row ∷ rows) old new written = one_written row.key row.way row.value rows (present rows) old new (λ mid. all_written rows mid new) written

-- a tree that was put at a key
pub is_put : {X : Type 0} (key : List ℕ) (way : Way X) (x : X) (d : Data) (fault : Option Error) (old new : Members)
    → is_some fault ≡ false → way.trees x d → new ≡ put_member key d old → WritesFrom (required_row key way x ∷ []) fault old fault new
unfolding WritesFrom
is_put key way x d None old new no_fault tree is = (Some d, tree, is)
is_put key way x d (Some e) old new no_fault tree is = absurd cc

-- a fault of a value of which there is no tree, since its way is lawful
pub stopped : {X : Type 0} (way : Way X) (x : X) (e : Error) → (e ≡ Memory) ⊎ way.refuses x e → IsWriting way x (Err e)
stopped way x e (inl memory) = inl memory
stopped way x e (inr refused) = inr (λ d tree. (way.lawful x).never ((way.lawful x).only d tree) e refused, refused)

-- the answer of a writing from its start to its end, and over the entries of a map
from_start : {X : Type 0} (rows : X → List Row) (x : X) (fault : Option Error) (ms : Members) (answer : Result Value Error)
    → WritesFrom (rows x) None no_members fault ms → WritingEnds fault ms answer → IsWriting (table_way rows) x answer
unfolding WritesFrom
from_start rows x fault ms answer h1 h2 = grind (arith, stopped)

pub ends : {X : Type 0} (rows : X → List Row) (x : X) (answer : Result Value Error) {a b : Option Error} {old new : Members}
    → a ≡ None → old ≡ no_members → WritingEnds b new answer → Steps (rows x) a old b new → IsWriting (table_way rows) x answer
ends rows x answer {b = b} {new = new} no_fault no_key end steps = from_start rows x b new answer (rw (no_fault, no_key) at steps.goes) end

from_entries : {X Y : Type 0} (way : Way Y) (entries : X → List (List ℕ × Y)) (rows : X → List Row) (x : X) (answer : Result Value Error) (a b : Option Error) (old new : Members)
    → Begins way (entries x) a old → WritesFrom (rows x) a old b new → WritingEnds b new answer → IsWriting (over_way way entries rows) x answer
unfolding WritesFrom
from_entries way entries rows x answer a b old new h1 h2 h3 = grind (arith, stopped)

pub ends_over : {X Y : Type 0} (way : Way Y) (entries : X → List (List ℕ × Y)) (rows : X → List Row) (x : X) (answer : Result Value Error) {a b : Option Error} {old new : Members}
    → Begins way (entries x) a old → WritingEnds b new answer → Steps (rows x) a old b new → IsWriting (over_way way entries rows) x answer
ends_over way entries rows x answer begun end steps = from_entries way entries rows x answer _ _ _ _ begun steps.goes end

-- a row of a value that means itself
pub ◌then_same◌ : {X : Type 0} {way : Way X} {key : List ℕ} {x : Option X} {rows : List Row} {a b c : Option Error} {old mid new : Members}
    → WritesFrom (optional_row key way (option_map (λ (y : X). y) x) ∷ []) a old b mid → Steps rows b mid c new → Steps (optional_row key way x ∷ rows) a old c new
◌then_same◌ {X = X} {way = way} {key = key} {x = x} {a = a} {b = b} {old = old} {mid = mid} first rest =
    subst (λ (y : Option X). WritesFrom (optional_row key way y ∷ []) a old b mid) (option_map_id x) first then rest

pub ruleset chain = (◌then◌, ◌then_same◌, done)

-- a list that is written element by element
at_index : {A : Type 0} (xs : List A) (i : ℕ) (x : A) → i < length xs → x ≡ get_or xs i x → drop i xs ≡ x ∷ drop (i + 1) xs
at_index xs i x lt at = drop_more xs i x lt ∙ ap (λ y. y ∷ drop (i + 1) xs) (sym at)

drop_all : {A : Type 0} (xs : List A) (i : ℕ) → length xs ≡ i → drop i xs ≡ []
drop_all [] i h = rw (← h)
drop_all (x ∷ xs) i h = rw (← h) (drop_all xs (length xs) refl)

module _ {X M : Type 0} (way : Way M) (meaning : X → M) where
  -- the trees of the first i elements are those of vs
  pub record ItemsWritten (xs : List X) (i : ℕ) (vs : List Value) : Type 0 where
    pub trees : (ys : List Value) → AreItems way (map meaning (drop i xs)) (items_view ys) → AreItems way (map meaning xs) (items_view (vs ++ ys))
    pub faults : (e : Error) → ItemsRefused way (map meaning (drop i xs)) e → ItemsRefused way (map meaning xs) e

  pub items_end : (xs : List X) (i : ℕ) (vs : List Value) → ItemsWritten xs i vs → length xs ≡ i → (list_way way).trees (map meaning xs) (array (items_view vs))
  items_end xs i vs so_far all = (
    items_view vs,
    refl,
    rw (← append-nil vs) (so_far.trees [] (rw (drop_all xs i all) tt)),
  )

  pub items_err : (xs : List X) (i : ℕ) (vs : List Value) (x : X) (e : Error) → ItemsWritten xs i vs → i < length xs → x ≡ get_or xs i x
      → IsWriting way (meaning x) (Err e) → IsWriting (list_way way) (map meaning xs) (Err e)
  items_err xs i vs x e so_far lt at (inl memory) = inl memory
  items_err xs i vs x e so_far lt at (inr refused) = stopped (list_way way) (map meaning xs) e (inr (so_far.faults e (rw (at_index xs i x lt at) (inl refused.1))))

-- the table of a map, whose pairs are gathered entry by entry: the keys of pairs are those of the entries
keys_same : {X : Type 0} (way : Way X) (es : List (List ℕ × X)) (ps : List Entry) → AreEntries way es (members_view ps) → keys_of es ≡ keys_of (pairs_meaning view ps)
keys_same way [] [] are = refl
keys_same way (e ∷ es) (p ∷ ps) are = rw (are.0, keys_same way es ps are.2) refl
keys_same way _ _ are = absurd are

pub pairs_ascend : {X : Type 0} (way : Way X) (es : List (List ℕ × X)) (ps : List Entry) → Ascend (keys_of es) → AreEntries way es (members_view ps) → IsStrictlySortedBy string_cmp (keys_of ps)
pairs_ascend way es ps ascend are = ascend-keys view ps (subst Ascend (keys_same way es ps are) ascend)

-- a table that is made of pairs has these as its members
abbrev members_meant : List (List ℕ × Value) → Members
members_meant [] = no_members
members_meant (e ∷ es) = member e.0 (view e.1) (members_meant es)

meant_members : (es : List Entry) → members_view es ≡ members_meant (pairs_meaning (λ x. x) es)
meant_members [] = refl
meant_members (e ∷ es) = ap (member (string_bytes e.0) (view e.1)) (meant_members es)

same_members : (es fs : List Entry) → pairs_meaning (λ x. x) es ≡ pairs_meaning (λ x. x) fs → members_view es ≡ members_view fs
same_members es fs same = meant_members es ∙ ap members_meant same ∙ sym (meant_members fs)

pub makes_table : {X : Type 0} (way : Way X) (es : List (List ℕ × X)) (ps : List Entry) (made : BTreeMap (String Global) Value)
    → Ascend (keys_of es) → AreEntries way es (members_view ps) → map_meaning (λ x. x) made ≡ pairs_meaning (λ x. x) ps → IsMap way es (table_view made)
makes_table way es ps made ascend are same = (ascend, subst (AreEntries way es) (sym (same_members made.entries ps same)) are)

module _ {X : Type 0} (way : Way X) (all : List (List ℕ × X)) where
  -- with the rest of the entries, what was gathered so far are the pairs of all
  pub record Gathers (rest : List (List ℕ × X)) (ps : List Entry) : Type 0 where
    pub pairs : (more : List Entry) → AreEntries way rest (members_view more) → AreEntries way all (members_view (ps ++ more))
    pub faults : (e : Error) → EntriesRefused way rest e → EntriesRefused way all e

  pub gather_start : (rest : List (List ℕ × X)) (ps : List Entry) → rest ≡ all → ps ≡ [] → Gathers rest ps
  gather_start rest ps whole empty = rw (whole, empty) (record { pairs = λ more h. h; faults = λ e h. h })

  pub gather_step : (x : X) (rest : List (List ℕ × X)) (ps ns : List Entry) (name : List ℕ) (k : String Global) (v : Value)
      → Gathers ((name, x) ∷ rest) ps → way.trees x (view v) → string_bytes k ≡ name → ns ≡ ps ++ (k, v) ∷ [] → Gathers rest ns
  gather_step x rest ps ns name k v so_far tree same more = record {
    pairs = λ others h. rw (more, append_assoc) (so_far.pairs ((k, v) ∷ others) (same, tree, h));
    faults = λ e h. so_far.faults e (inr h);
  }

  pub gather_end : (rest : List (List ℕ × X)) (ps : List Entry) → Gathers rest ps → rest ≡ [] → AreEntries way all (members_view ps)
  gather_end rest ps so_far none = rw (← append-nil ps) (so_far.pairs [] (rw none tt))

  pub gather_err : (x : X) (rest : List (List ℕ × X)) (ps : List Entry) (name : List ℕ) (fault : Error)
      → Gathers ((name, x) ∷ rest) ps → IsWriting way x (Err fault) → (fault ≡ Memory) ⊎ EntriesRefused way all fault
  gather_err x rest ps name fault so_far (inl memory) = inl memory
  gather_err x rest ps name fault so_far (inr refused) = inr (so_far.faults fault (inl refused.1))

-- what is said of a name, looked up in the map
choose : (b : Bool) (x : FeatureDetail) (r : Option FeatureDetail) (s : Option Detail) → s ≡ option_map detail_of r → cond b (Some (detail_of x)) s ≡ option_map detail_of (cond b (Some x) r)
choose b x r s h1 = grind arith

in_entries : (name : List ℕ) (es : List (String Global × FeatureDetail))
    → detail_under name (pairs_meaning detail_of es) ≡ option_map detail_of (lookup (is_at (λ k. slice_cmp nat_cmp name (string_bytes k))) es)
in_entries name [] = refl
in_entries name (e ∷ es) = rw (is_eq-slice_cmp name (string_bytes e.0)) (choose (bytes_eq name (string_bytes e.0)) e.1 _ _ (in_entries name es))

pub detail_at-map : (name : List ℕ) (m : BTreeMap (String Global) FeatureDetail)
    → detail_under name (map_meaning detail_of m) ≡ option_map detail_of (get_by (λ k. slice_cmp nat_cmp name (string_bytes k)) m)
detail_at-map name m = in_entries name m.entries

-- features, each with what is said of it
abbrev pub with_details : List (List ℕ × Detail) → List (String Global × Vec (String Global) Global) → List (List ℕ × (List (List ℕ) × Option Detail))
with_details details fs = told_features (pairs_meaning (λ v. map string_bytes v.items) fs, details)
