-- Texts that stand in byte order.
use Rattle.std.specs.{Prelude.List, Cmp.Lexicographic.slice_cmp, Ordering.nat_cmp}
use Rattle.std.specs.List.Sorted.{IsStrictlySortedBy, IsStrictlySortedBy-prop}
use Rattle.cargo_toml_graph.specs.Action.{Text}

-- each text is below those after it
abbrev pub Ascend : List Text → Type 0
Ascend texts = IsStrictlySortedBy (slice_cmp nat_cmp) texts

-- that they stand so is one fact
pub Ascend-prop : (texts : List Text) → IsProp (Ascend texts)
Ascend-prop texts = IsStrictlySortedBy-prop (slice_cmp nat_cmp) texts
