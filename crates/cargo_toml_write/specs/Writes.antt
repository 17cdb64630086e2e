-- What a writer answers, and how lists, maps and tables are written part by part.
use Rattle.std.specs.Prelude.{◌≡◌, ◌⊎◌, ℕ, List, [], ◌∷◌, map, Bool, true, false, IsTrue, Result}
use Rattle.std.specs.Prelude.{Ok, Err, IfOk, Option, Some, None, IfSome, MatchBool}
use Rattle.std.specs.{Cmp.Lexicographic.slice_cmp, Ordering.nat_cmp, Ordering.match_ordering}
use Rattle.toml.specs.Data.{Data, Items, no_items, item, table, Members, no_members, member}
use Rattle.toml.specs.View.{view, table_view}
use Rattle.toml.specs.declared.value.Value.{Value}
use Rattle.cargo_toml_parts.specs.declared.error.Error.{Error, Memory}
use Rattle.cargo_toml_parts.specs.Floats.{has_no_float, without_floats}
use Rattle.cargo_toml_write.specs.declared.write.writing.Writing.{Writing}

-- no tree holds a float, and a value has one only if it is as asked; then it is never refused
pub record AreLawful (trees : Data → Type 0) (asks : Type 0)
    (refuses : Error → Type 0) : Type 0 where
  pub floatless : (d : Data) → trees d → IsTrue (has_no_float d)
  pub only : (d : Data) → trees d → asks
  pub never : asks → (e : Error) → ¬ (refuses e)

-- how what values hold is written. `trees` are those of a value, and `refuses` the faults of one
-- that has no tree. `left_out` tells the value for which a missing key stands. `asks` is what a
-- value needs so that it has a tree, as that no free value in it holds a float. Where
-- `asks_nothing` is true, no value of the type needs anything
pub record Way (X : Type 0) : Type 1 where
  pub trees : X → Data → Type 0
  pub refuses : X → Error → Type 0
  pub left_out : X → Bool
  pub asks : X → Type 0
  pub asks_nothing : Bool
  pub lawful : (x : X) → AreLawful (trees x) (asks x) (refuses x)
  pub nothing : IsTrue asks_nothing → (x : X) → asks x

-- no value is what a missing key stands for
abbrev pub never_left_out : {X : Type 0} → X → Bool
never_left_out x = false

-- there is no tree of what is held, and the fault says why
abbrev pub Refuses : {X : Type 0} → Way X → X → Error → Type 0
Refuses way x e = ((d : Data) → ¬ (way.trees x d)) × way.refuses x e

-- the answer is a tree of what is held; where there is none, it is a fault that says why; or
-- there was no memory
abbrev pub IsWriting : {X : Type 0} → Way X → X → Result Value Error → Type 0
IsWriting way x (Ok v) = way.trees x (view v)
IsWriting way x (Err e) = (e ≡ Memory) ⊎ Refuses way x e

-- the public reader, which refuses a float at any depth, reads the tree again as what was held
abbrev pub IsReadAgain : {M : Type 0} → (Data → Option M) → M → Result Value Error → Type 0
IsReadAgain reads m answer = IfOk answer (λ v. without_floats reads (view v) ≡ Some m)

-- a tree for each element of a list, and the fault of one that has none
abbrev pub AreItems : {X : Type 0} → Way X → List X → Items → Type 0
AreItems way [] no_items = Unit {0}
AreItems way (x ∷ xs) (item d ds) = way.trees x d × AreItems way xs ds
AreItems way _ _ = ⊥

-- a fault of one of the elements
abbrev pub ItemsRefused : {X : Type 0} → Way X → List X → Error → Type 0
ItemsRefused way [] e = ⊥
ItemsRefused way (x ∷ xs) e = way.refuses x e ⊎ ItemsRefused way xs e

-- the same of a map: a member for each entry, in their order
abbrev pub AreEntries : {X : Type 0} → Way X → List (List ℕ × X) → Members → Type 0
AreEntries way [] no_members = Unit {0}
AreEntries way (e ∷ es) (member k d ms) = (k ≡ e.0) × way.trees e.1 d × AreEntries way es ms
AreEntries way _ _ = ⊥

-- a fault of one of the values of a map
abbrev pub EntriesRefused : {X : Type 0} → Way X → List (List ℕ × X) → Error → Type 0
EntriesRefused way es e = ItemsRefused way (map (λ x. x.1) es) e

-- the members, with d at the key k
abbrev pub put_member : List ℕ → Data → Members → Members
put_member k d no_members = member k d no_members
put_member k d (member l e ms) =
    match_ordering (slice_cmp nat_cmp k l) (member k d (member l e ms)) (member l d ms)
    (member l e (put_member k d ms))

-- the same, where there may be nothing to put
abbrev pub put_some : List ℕ → Option Data → Members → Members
put_some k None ms = ms
put_some k (Some d) ms = put_member k d ms

-- a row of a table: a key, and what stands at it, if anything, with the way in which that is
-- written
pub record Row : Type 1 where
  pub key : List ℕ
  pub Value : Type 0
  pub way : Way Value
  pub value : Option Value

-- a tree of what is there, and nothing where nothing is
abbrev pub IsHeld : {X : Type 0} → Way X → Option X → Option Data → Type 0
IsHeld way None d = d ≡ None
IsHeld way (Some x) None = ⊥
IsHeld way (Some x) (Some d) = way.trees x d

-- a fault of what is there
abbrev pub IsRefused : {X : Type 0} → Way X → Option X → Error → Type 0
IsRefused way None e = ⊥
IsRefused way (Some x) e = way.refuses x e

-- the row of what may be there
abbrev pub optional_row : {X : Type 0} → List ℕ → Way X → Option X → Row
optional_row {X = X} key way x = record { key = key; Value = X; way = way; value = x }

-- the row of what is there
abbrev pub required_row : {X : Type 0} → List ℕ → Way X → X → Row
required_row key way x = optional_row key way (Some x)

-- the value, unless it is left out
abbrev pub unless : {X : Type 0} → Bool → X → Option X
unless true x = None
unless false x = Some x

-- the row of what is written unless it is left out
abbrev pub given_row : {X : Type 0} → List ℕ → Way X → X → Row
given_row key way x = optional_row key way (unless (way.left_out x) x)

-- what a table holds after rows were written, one after the other
abbrev pub AreWritten : List Row → Members → Members → Type 0
AreWritten [] old new = new ≡ old
AreWritten (row ∷ rows) old new =
    (d : Option Data) × IsHeld row.way row.value d × AreWritten rows (put_some row.key d old) new

-- the fault of a row for which there is no tree
abbrev pub AreRefused : List Row → Error → Type 0
AreRefused [] e = ⊥
AreRefused (row ∷ rows) e = IsRefused row.way row.value e ⊎ AreRefused rows e

-- from the fault and the members before some rows to those after them: a fault stands, and nothing
-- else is said once there is one
unfoldable pub WritesFrom : List Row → Option Error → Members → Option Error → Members → Type 0
WritesFrom rows (Some e) old after new = after ≡ Some e
WritesFrom rows None old None new = AreWritten rows old new
WritesFrom rows None old (Some e) new = (e ≡ Memory) ⊎ AreRefused rows e

abbrev pub WritesRows : List Row → Writing → Writing → Type 0
WritesRows rows old new =
    WritesFrom rows old.fault (table_view old.table) new.fault (table_view new.table)

-- the end of a writing: its table, or its fault
abbrev pub WritingEnds : Option Error → Members → Result Value Error → Type 0
WritingEnds fault ms (Ok v) = (fault ≡ None) × (view v ≡ table ms)
WritingEnds fault ms (Err e) = fault ≡ Some e

-- what is asked of the values of rows: nothing where nothing is asked of any value of the type
abbrev pub RowsAsk : List Row → Type 0
RowsAsk [] = Unit {0}
RowsAsk (row ∷ rows) =
    MatchBool row.way.asks_nothing (RowsAsk rows) (IfSome row.value row.way.asks × RowsAsk rows)
