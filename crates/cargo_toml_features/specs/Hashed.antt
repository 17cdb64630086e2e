-- A hashed table of features, as it is listed.
use Rattle.std.specs.Prelude.{◌≡◌, List, Option, map, option_map, string_bytes, String, Vec}
use Rattle.std.specs.{Borrow.Bor, BTreeMap.BTreeMap, Cmp.Lexicographic.slice_cmp, HashMap.HashMap}
use Rattle.std.specs.{List.Sorted.IsStrictlySortedBy, Map.lookup, Ordering.nat_cmp, Str.bytes_eq}
use Rattle.std.specs.declared.alloc.Global.{Global}
use Rattle.cargo_toml_graph.specs.{Action.Text, Admitted.Listed}
use Rattle.std.specs.BTreeMap as tree
use Rattle.std.specs.HashMap as hash

-- the actions of the feature of a name, if there is one
abbrev pub actions_at : {S : Type 0} → HashMap (String Global) (Vec (String Global) Global) S → Text
    → Option (List Text)
actions_at m f =
    option_map (λ v. map string_bytes v.items) (hash.get_by (λ k. bytes_eq f (string_bytes k)) m)

-- the same of a table in the order of its names
abbrev pub sorted_actions_at : BTreeMap (Bor Text) (Bor (List (String Global))) → Text
    → Option (List Text)
sorted_actions_at m f =
    option_map (λ v. map string_bytes v.now) (tree.get_by (λ k. slice_cmp nat_cmp f k.now) m)

-- the one list that has the names of the table in byte order, each with its actions
pub record IsListingOf {S : Type 0} (m : HashMap (String Global) (Vec (String Global) Global) S)
    (listed : Listed) : Type 0 where
  pub in_order : IsStrictlySortedBy (slice_cmp nat_cmp) (map (λ e. e.0) listed)
  pub holds : (f : Text) → lookup (bytes_eq f) listed ≡ actions_at m f
