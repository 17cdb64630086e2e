-- How texts, truth values, numbers, versions, lists, maps, tables and inherited values are written,
-- each with why its way is lawful.
use Rattle.std.specs.Prelude.{◌≡◌, ◌⊎◌, ℕ, ℤ, pos, List, [], ◌∷◌, codes, Bool, All, refl, true}
use Rattle.std.specs.Prelude.{false, IsTrue, Option, Some, None, Result, Ok, Err, String}
use Rattle.std.specs.{BTreeMap.BTreeMap, Cmp.Lexicographic.slice_cmp, Global.Global}
use Rattle.std.specs.{List.Sorted.IsStrictlySortedBy, Map.keys_of, Ordering.nat_cmp}
use Rattle.std.proofs.Common.{inl, inr, sym, subst}
use Rattle.std.proofs.lemmas.Bool.{false≢true}
use Rattle.semver.specs.Identifiers.{parts_text}
use Rattle.semver.specs.Parse.{Held}
use Rattle.toml.specs.Data.{Data, string, boolean, integer, array, table, Items, Members}
use Rattle.toml.specs.Data.{no_members, member}
use Rattle.toml.specs.View.{table_view}
use Rattle.toml.specs.declared.value.Value.{Value}
use Rattle.cargo_toml_parts.specs.declared.inheritable.Inheritable.{Inheritable}
use Rattle.cargo_toml_parts.specs.declared.inheritable.Inheritable.TheVariants.{Set, Inherited}
use Rattle.cargo_toml_parts.specs.declared.error.Error.{Error, Memory}
use Rattle.cargo_toml_parts.specs.Faults.{IsOther, floats_unsupported}
use Rattle.cargo_toml_parts.specs.Floats.{has_no_float}
use Rattle.cargo_toml_parts.specs.Numbers.{fits_u16, fits_i8}
use Rattle.cargo_toml_parts.specs.Versions.{Parts}
use Rattle.cargo_toml_write.specs.Asked.{EachValue}
use Rattle.cargo_toml_write.specs.Lawful.{entries_are, entries_never, items_are, items_never}
use Rattle.cargo_toml_write.specs.Lawful.{rows_are, rows_never}
use Rattle.cargo_toml_write.specs.Requirements.{requirement_text}
use Rattle.cargo_toml_write.specs.Writes.{AreEntries, AreItems, AreRefused, AreWritten}
use Rattle.cargo_toml_write.specs.Writes.{EntriesRefused, ItemsRefused, Row, RowsAsk, Way}
use Rattle.cargo_toml_write.specs.Writes.{never_left_out, optional_row}

-- the tree holds no float at any depth
abbrev pub HoldsNoFloat : Data → Type 0
HoldsNoFloat tree = IsTrue (has_no_float tree)

-- what always has one tree, as a word has
abbrev pub exactly : {X : Type 0} (tree : X → Data) → ((x : X) → HoldsNoFloat (tree x)) → Way X
exactly tree h = record {
  trees = λ x d. d ≡ tree x;
  refuses = λ x e. ⊥;
  left_out = never_left_out;
  asks = λ x. Unit {0};
  asks_nothing = true;
  lawful = λ x. record {
    floatless = λ d is. subst HoldsNoFloat (sym is) (h x);
    only = λ d is. tt;
    never = λ asked e refused. refused;
  };
  nothing = λ is x. tt;
}

-- how a value that has a word is written
abbrev pub word_way : {X : Type 0} → (X → List ℕ) → Way X
word_way word = exactly (λ x. string (word x)) (λ x. refl)

-- how a text is written
abbrev pub text_way : Way (List ℕ)
text_way = exactly string (λ x. refl)

-- how a truth value is written
abbrev pub truth_way : Way Bool
truth_way = exactly boolean (λ b. refl)

-- a way of which each tree tells something of its value besides
abbrev pub telling : {X : Type 0} → (X → Type 0) → Way X → Way X
telling P way = record way {
  trees = λ x d. P x × way.trees x d;
  lawful = λ x. record {
    floatless = λ d tree. (way.lawful x).floatless d tree.1;
    only = λ d tree. (way.lawful x).only d tree.1;
    never = (way.lawful x).never;
  };
}

-- how a number of two bytes is written
abbrev pub number_way : Way ℕ
number_way = telling (λ n. fits_u16 (pos n) ≡ Some n) (exactly (λ n. integer (pos n)) (λ n. refl))

-- how a number of one byte with a sign is written
abbrev pub small_way : Way ℤ
small_way = telling (λ z. fits_i8 z ≡ Some z) (exactly integer (λ z. refl))

-- how a version is written: as `semver` writes it
abbrev pub version_way : Way Parts
version_way = word_way parts_text

-- how a requirement is written
abbrev pub requirement_way : Way (List Held)
requirement_way = word_way requirement_text

-- a tree itself, unless it holds a float
abbrev pub free_way : Way Data
free_way = record {
  trees = λ tree d. HoldsNoFloat tree × (d ≡ tree);
  refuses = λ tree e. (¬ (HoldsNoFloat tree)) × IsOther floats_unsupported e;
  left_out = never_left_out;
  asks = HoldsNoFloat;
  asks_nothing = false;
  lawful = λ tree. record {
    floatless = λ d is. subst HoldsNoFloat (sym is.1) is.0;
    only = λ d is. is.0;
    never = λ h e refused. refused.0 h;
  };
  nothing = λ is tree. absurd (false≢true is);
}

-- whether a list is empty
abbrev pub is_nil : {X : Type 0} → List X → Bool
is_nil [] = true
is_nil _ = false

-- what holds of every value holds of each of a list
pub all_of : {X : Type 0} (P : X → Type 0) → ((x : X) → P x) → (xs : List X) → All P xs
all_of P h xs = λ k d lt. h _

-- how a list is written: a tree for each element; an empty list is left out of a table
abbrev pub list_way : {X : Type 0} → Way X → Way (List X)
list_way way = record {
  trees = λ xs d. (ds : Items) × (d ≡ array ds) × AreItems way xs ds;
  refuses = ItemsRefused way;
  left_out = is_nil;
  asks = All way.asks;
  asks_nothing = way.asks_nothing;
  lawful = λ xs. record {
    floatless = λ d (ds, is, are). subst HoldsNoFloat (sym is) (items_are way xs ds are).0;
    only = λ d (ds, is, are). (items_are way xs ds are).1;
    never = items_never way xs;
  };
  nothing = λ is. all_of way.asks (way.nothing is);
}

-- how a list of texts is written
abbrev pub texts_way : Way (List (List ℕ))
texts_way = list_way text_way

-- names that ascend, as the keys of a map do
abbrev pub Ascend : List (List ℕ) → Type 0
Ascend names = IsStrictlySortedBy (slice_cmp nat_cmp) names

-- the members of a map: one for each entry, whose keys ascend
abbrev pub IsMap : {X : Type 0} → Way X → List (List ℕ × X) → Members → Type 0
IsMap way es ms = Ascend (keys_of es) × AreEntries way es ms

-- how a map is written; an empty map is left out of a table
abbrev pub map_way : {X : Type 0} → Way X → Way (List (List ℕ × X))
map_way {X = X} way = record {
  trees = λ es d. (ms : Members) × (d ≡ table ms) × IsMap way es ms;
  refuses = EntriesRefused way;
  left_out = is_nil;
  asks = EachValue way.asks;
  asks_nothing = way.asks_nothing;
  lawful = λ es. record {
    floatless = λ d (ms, is, map). subst HoldsNoFloat (sym is) (entries_are way es ms map.1).0;
    only = λ d (ms, is, map). (entries_are way es ms map.1).1;
    never = entries_never way es;
  };
  nothing = λ is. all_of (λ (e : List ℕ × X). way.asks e.1) (λ e. way.nothing is e.1);
}

-- what is made of a map in one go: its table; or the fault of one of its entries; or there was no
-- memory
abbrev pub MakesTable : {X : Type 0} → Way X → List (List ℕ × X)
    → Result (BTreeMap (String Global) Value) Error → Type 0
MakesTable way es (Ok made) = IsMap way es (table_view made)
MakesTable way es (Err e) = (e ≡ Memory) ⊎ EntriesRefused way es e

-- the same by the fault that was met, if any, and the members of what was made
abbrev pub Begins : {X : Type 0} → Way X → List (List ℕ × X) → Option Error → Members → Type 0
Begins way es None ms = IsMap way es ms
Begins way es (Some e) ms = (e ≡ Memory) ⊎ EntriesRefused way es e

-- the members of which entries are read
abbrev pub members_of : List (List ℕ × Data) → Members
members_of [] = no_members
members_of (e ∷ es) = member e.0 e.1 (members_of es)

-- how a table of rows is written
abbrev pub table_way : {X : Type 0} → (X → List Row) → Way X
table_way rows = record {
  trees = λ x d. (ms : Members) × (d ≡ table ms) × AreWritten (rows x) no_members ms;
  refuses = λ x e. AreRefused (rows x) e;
  left_out = never_left_out;
  asks = λ x. RowsAsk (rows x);
  asks_nothing = false;
  lawful = λ x. record {
    floatless = λ d (ms, is, written).
        subst HoldsNoFloat (sym is) ((rows_are (rows x) no_members ms written).0 refl);
    only = λ d (ms, is, written). (rows_are (rows x) no_members ms written).1;
    never = rows_never (rows x);
  };
  nothing = λ is x. absurd (false≢true is);
}

-- how a table of rows is written of which nothing is asked
abbrev pub plain_table_way : {X : Type 0} (rows : X → List Row) → ((x : X) → RowsAsk (rows x))
    → Way X
plain_table_way rows nothing =
    record (table_way rows) { asks_nothing = true; nothing = λ is. nothing }

-- a table that begins with the entries of a map, and rows over them
abbrev pub over_way : {X Y : Type 0} → Way Y → (X → List (List ℕ × Y)) → (X → List Row) → Way X
over_way way entries rows = record {
  trees = λ x d. (old : Members) × (ms : Members) × (d ≡ table ms) × IsMap way (entries x) old
      × AreWritten (rows x) old ms;
  refuses = λ x e. EntriesRefused way (entries x) e ⊎ AreRefused (rows x) e;
  left_out = never_left_out;
  asks = λ x. EachValue way.asks (entries x) × RowsAsk (rows x);
  asks_nothing = false;
  lawful = λ x. record {
    floatless = λ d (old, ms, is, map, written). subst HoldsNoFloat (sym is)
        ((rows_are (rows x) old ms written).0 (entries_are way (entries x) old map.1).0);
    only = λ d (old, ms, is, map, written).
        ((entries_are way (entries x) old map.1).1, (rows_are (rows x) old ms written).1);
    never = λ asked e. elim [
      | inl refused ↦ entries_never way (entries x) asked.0 e refused
      | inr refused ↦ rows_never (rows x) asked.1 e refused
    ];
  };
  nothing = λ is x. absurd (false≢true is);
}

-- a value that is written as another one, which depends on it
pub record Part : Type 1 where
  pub Value : Type 0
  pub way : Way Value
  pub value : Value

-- the value x, written in a way
abbrev pub part : {X : Type 0} → Way X → X → Part
part {X = X} way x = record { Value = X; way = way; value = x }

-- what is asked of the value of a part
abbrev pub AsksOf : Part → Type 0
AsksOf p = p.way.asks p.value

-- how a value is written as its part
abbrev pub by_part : {X : Type 0} (of : X → Part) (nothing : Bool)
    → (IsTrue nothing → (x : X) → AsksOf (of x)) → Way X
by_part of nothing h = record {
  trees = λ x d. (of x).way.trees (of x).value d;
  refuses = λ x e. (of x).way.refuses (of x).value e;
  left_out = never_left_out;
  asks = λ x. AsksOf (of x);
  asks_nothing = nothing;
  lawful = λ x. (of x).way.lawful (of x).value;
  nothing = h;
}

-- the table that says that a value is inherited
abbrev pub inherited_tree : Data
inherited_tree = table (member (codes "workspace") (boolean true) no_members)

-- how it is written that a value is inherited
abbrev pub left_way : Way (Unit {0})
left_way = exactly (λ x. inherited_tree) (λ x. refl)

-- the value that is set, or that it is inherited
abbrev pub inheritable_part : {X : Type 0} → Way X → Inheritable X → Part
inheritable_part way (Set x) = part way x
inheritable_part way Inherited = part left_way tt

-- nothing is asked of what may be inherited, where nothing is of what is set
pub either_nothing : {X : Type 0} (way : Way X) → IsTrue way.asks_nothing → (x : Inheritable X)
    → AsksOf (inheritable_part way x)
either_nothing way is (Set x) = way.nothing is x
either_nothing way is Inherited = tt

-- whether a value is set, and passes the test
abbrev pub is_set_and : {X : Type 0} → (X → Bool) → Inheritable X → Bool
is_set_and test (Set x) = test x
is_set_and test Inherited = false

-- how a value that a workspace may give is written
abbrev pub inheritable_way : {X : Type 0} → Way X → Way (Inheritable X)
inheritable_way way =
    record (by_part (inheritable_part way) way.asks_nothing (either_nothing way)) {
      left_out = is_set_and way.left_out;
    }

-- a truth value that is left out where it is that of a missing key
abbrev pub unless_missing : Bool → Bool → Option Bool
unless_missing true true = None
unless_missing false false = None
unless_missing missing b = Some b

-- the row of a truth value, unless it is that of a missing key
abbrev pub flag_row : List ℕ → Bool → Bool → Row
flag_row key missing b = optional_row key truth_way (unless_missing missing b)
