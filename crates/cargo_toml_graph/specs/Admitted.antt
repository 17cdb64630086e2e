-- The features that a table lists, as many of them as count, and what each says.
use Rattle.std.specs.Prelude.{ℕ, Bool, false, if◌then◌else◌, ◌||◌, List, []}
use Rattle.std.specs.Prelude.{map, filter, take, nat_lt, is_some, Option, Some}
use Rattle.std.specs.Prelude.{None, unwrap_or, codes, bytes_eq, fold, count_by}
use Rattle.std.specs.{List.list_any, Map.lookup, Cmp.Lexicographic.slice_cmp}
use Rattle.std.specs.Ordering.{nat_cmp, is_lt}
use Rattle.cargo_toml_graph.specs.Action.{Text, Action, Item, join_option, item_of}
use Rattle.cargo_toml_graph.specs.Action.Item.{Name, On}

-- the byte order of texts
abbrev pub is_below : Text → Text → Bool
is_below a b = is_lt (slice_cmp nat_cmp a b)

-- a table of features as it is listed: each name with its actions, in any order
abbrev pub Listed : Type 0
Listed = List (Text × List Text)

-- an item names x
abbrev pub item_names : Text → Item → Bool
item_names x (Name y) = bytes_eq x y
item_names x (On k a) = false

-- what an item does to k
abbrev pub action_on : Text → Item → Option Action
action_on k (Name y) = None
action_on k (On q a) = if bytes_eq k q then Some a else None

-- the first names in byte order, and always `default`
abbrev pub is_admitted : ℕ → Listed → Text → Bool
is_admitted limit listed f =
    bytes_eq f (codes "default") || nat_lt (count_by (λ e. is_below e.0 f) listed) limit

-- the table as far as it is admitted: of its names the first and `default`, of the
-- actions of each the first
abbrev pub admitted : ℕ → Listed → Listed
admitted limit listed =
    map (λ e. (e.0, take limit e.1)) (filter (λ e. is_admitted limit listed e.0) listed)

module _ (listed : Listed) where
  -- a name that is listed, or `default`
  abbrev pub is_explicit : Text → Bool
  is_explicit f = bytes_eq f (codes "default") || is_some (lookup (bytes_eq f) listed)

  -- what the list of f says; nothing where f isn't listed
  abbrev pub items : Text → List Item
  items f = map item_of (unwrap_or (lookup (bytes_eq f) listed) [])

  -- the names that f names, known or not
  abbrev pub names : Text → Text → Bool
  names f x = list_any (item_names x) (items f)

  -- f's actions on k, joined
  abbrev pub joined_action : Text → Text → Option Action
  joined_action f k = fold (λ o i. join_option o (action_on k i)) None (items f)
