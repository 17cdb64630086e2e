-- Features of a map that name no feature that enables them: words of a step of reporting, on which
-- no public contract rests.
use Rattle.std.specs.Prelude.{Bool, false, ◌&&◌, ◌==◌, not, bytes_eq, codes}
use Rattle.std.specs.{Borrow.Bor, BTreeSet.btree_set_len, HashMap.HashMap, Option.option_map_or}
use Rattle.cargo_toml.specs.{Feature.Feature, Action.Text, Views.value_at}

-- a feature of the name f, other than `default`, without enablers
abbrev pub is_alone : Text → Feature → Bool
is_alone f v = (btree_set_len v.enabled_by == 0) && not (bytes_eq f (codes "default"))

-- the map has such a feature under f
abbrev pub is_alone_at : {S : Type 0} → HashMap (Bor Text) Feature S → Text → Bool
is_alone_at m f = option_map_or (is_alone f) (value_at m f) false
