-- Why lists, maps and tables are lawful, where the ways of their parts are, as each way is.
use Rattle.std.specs.Prelude.{ℕ, List, [], ◌∷◌, Bool, true, false, IsTrue, map, IfSome, MatchBool}
use Rattle.std.specs.Prelude.{Option, Some, None, refl, ◌≡◌, All}
use Rattle.std.specs.{Cmp.Lexicographic.slice_cmp, List.AllByRecursion, Ordering.nat_cmp}
use Rattle.std.specs.{Ordering.match_ordering}
use Rattle.std.proofs.Common.{inl, inr, sym, subst, Ordering, Less, Equal, Greater}
use Rattle.std.proofs.lemmas.Bool.{and_from, and_parts}
use Rattle.std.proofs.lemmas.List.Elements.{All-cons, All-map, All-nil, recursion_from_All}
use Rattle.toml.specs.Data.{Data, Items, no_items, item, Members, no_members, member}
use Rattle.cargo_toml_parts.specs.declared.error.Error.{Error}
use Rattle.cargo_toml_parts.specs.Floats.{has_no_float, items_have_no_float, members_have_no_float}
use Rattle.cargo_toml_write.specs.Asked.{EachValue}
use Rattle.cargo_toml_write.specs.Writes.{AreEntries, AreItems, AreRefused, AreWritten}
use Rattle.cargo_toml_write.specs.Writes.{EntriesRefused, IsHeld, IsRefused, ItemsRefused, Row}
use Rattle.cargo_toml_write.specs.Writes.{RowsAsk, Way, put_member, put_some}

module _ {X : Type 0} (way : Way X) where
  -- lists
  pub items_are : (xs : List X) (ds : Items) → AreItems way xs ds
      → IsTrue (items_have_no_float ds) × All way.asks xs
  items_are [] no_items are = (refl, All-nil way.asks)
  items_are (x ∷ xs) (item d ds) are =
      let rest : IsTrue (items_have_no_float ds) × All way.asks xs = items_are xs ds are.1 in (
        and_from _ _ ((way.lawful x).floatless d are.0) rest.0,
        All-cons way.asks x xs ((way.lawful x).only d are.0) rest.1,
      )
  items_are _ _ are = absurd are

  never_refused : (xs : List X) → AllByRecursion way.asks xs → (e : Error)
      → ¬ (ItemsRefused way xs e)
  never_refused [] asked e refused = refused
  never_refused (x ∷ xs) asked e (inl refused) = (way.lawful x).never asked.0 e refused
  never_refused (x ∷ xs) asked e (inr refused) = never_refused xs asked.1 e refused

  pub items_never : (xs : List X) → All way.asks xs → (e : Error) → ¬ (ItemsRefused way xs e)
  items_never xs asked = never_refused xs (recursion_from_All way.asks xs asked)

  -- maps
  pub entries_are : (es : List (List ℕ × X)) (ms : Members) → AreEntries way es ms
      → IsTrue (members_have_no_float ms) × EachValue way.asks es
  entries_are [] no_members are = (refl, All-nil (λ (e : List ℕ × X). way.asks e.1))
  entries_are (e ∷ es) (member k d ms) are =
      let rest : IsTrue (members_have_no_float ms) × EachValue way.asks es
      = entries_are es ms are.2 in (
        and_from _ _ ((way.lawful e.1).floatless d are.1) rest.0,
        All-cons (λ (e : List ℕ × X). way.asks e.1) e es ((way.lawful e.1).only d are.1) rest.1,
      )
  entries_are _ _ are = absurd are

  pub entries_never : (es : List (List ℕ × X)) → EachValue way.asks es → (e : Error)
      → ¬ (EntriesRefused way es e)
  entries_never es asked =
      items_never (map (λ (e : List ℕ × X). e.1) es) (All-map way.asks (λ e. e.1) es asked)

  -- the value of a row
  held_only : (x : Option X) (d : Option Data) → IsHeld way x d → IfSome x way.asks
  held_only None d held = tt
  held_only (Some x) None held = absurd held
  held_only (Some x) (Some d) held = (way.lawful x).only d held

  value_never : (x : Option X) → IfSome x way.asks → (e : Error) → ¬ (IsRefused way x e)
  value_never None asked e refused = refused
  value_never (Some x) asked e refused = (way.lawful x).never asked e refused

  value_asked : (b : Bool) (x : Option X) (rest : Type 0) → b ≡ way.asks_nothing
      → MatchBool b rest (IfSome x way.asks × rest) → IfSome x way.asks × rest
  value_asked true None rest is h = (tt, h)
  value_asked true (Some x) rest is h = (way.nothing (sym is) x, h)
  value_asked false x rest is h = h

-- rows
asked_with : (b : Bool) (P Q : Type 0) → P → Q → MatchBool b Q (P × Q)
asked_with true P Q h rest = rest
asked_with false P Q h rest = (h, rest)

one_asked : (row : Row) (rows : List Row) → RowsAsk (row ∷ rows)
    → IfSome row.value row.way.asks × RowsAsk rows
one_asked row rows h =
    value_asked row.way row.way.asks_nothing row.value (RowsAsk rows) refl h

-- where rows are as asked, none is refused
pub rows_never : (rows : List Row) → RowsAsk rows → (e : Error) → ¬ (AreRefused rows e)
rows_never [] asked e refused = refused
rows_never (row ∷ rows) asked e (inl refused) =
    value_never row.way row.value (one_asked row rows asked).0 e refused
rows_never (row ∷ rows) asked e (inr refused) =
    rows_never rows (one_asked row rows asked).1 e refused

-- no row puts a float into a table
abbrev pub AllFloatless : Members → Type 0
AllFloatless ms = IsTrue (members_have_no_float ms)

put_at : (o : Ordering) (k l : List ℕ) (d e : Data) (ms : Members) → IsTrue (has_no_float d)
    → IsTrue (has_no_float e) → AllFloatless ms → AllFloatless (put_member k d ms) → AllFloatless
    (match_ordering o (member k d (member l e ms)) (member l d ms) (member l e (put_member k d ms)))
put_at Less k l d e ms new old rest more = and_from _ _ new (and_from _ _ old rest)
put_at Equal k l d e ms new old rest more = and_from _ _ new rest
put_at Greater k l d e ms new old rest more = and_from _ _ old more

put_floatless : (k : List ℕ) (d : Data) (ms : Members) → IsTrue (has_no_float d)
    → AllFloatless ms → AllFloatless (put_member k d ms)
put_floatless k d no_members new old = and_from _ _ new refl
put_floatless k d (member l e ms) new old =
    let parts : IsTrue (has_no_float e) × AllFloatless ms = and_parts _ _ old in
    put_at (slice_cmp nat_cmp k l) k l d e ms new parts.0 parts.1 (put_floatless k d ms new parts.1)

some_floatless : {X : Type 0} (way : Way X) (k : List ℕ) (x : Option X) (d : Option Data)
    (ms : Members) → IsHeld way x d → AllFloatless ms → AllFloatless (put_some k d ms)
some_floatless way k x None ms held old = old
some_floatless way k None (Some d) ms held old = absurd cc
some_floatless way k (Some x) (Some d) ms held old =
    put_floatless k d ms ((way.lawful x).floatless d held) old

-- rows that were written put no float into a table, and are as asked
pub rows_are : (rows : List Row) (old new : Members) → AreWritten rows old new
    → (AllFloatless old → AllFloatless new) × RowsAsk rows
rows_are [] old new is = (subst AllFloatless (sym is), tt)
rows_are (row ∷ rows) old new (d, held, rest) =
    let later : (AllFloatless (put_some row.key d old) → AllFloatless new) × RowsAsk rows
    = rows_are rows (put_some row.key d old) new rest in (
      λ none. later.0 (some_floatless row.way row.key row.value d old held none),
      asked_with row.way.asks_nothing _ _ (held_only row.way row.value d held) later.1,
    )
