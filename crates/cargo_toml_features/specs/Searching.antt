-- Texts that are looked up: a few in any order, and more in byte order.
use Rattle.std.specs.Prelude.{Bool, IsTrue, List, Vec, bytes_eq, length, map, nat_lt}
use Rattle.std.specs.{Borrow.Bor, List.list_any, declared.alloc.Global.Global}
use Rattle.cargo_toml_features.specs.declared.texts.TheConstants.{FEW}
use Rattle.cargo_toml_graph.specs.{Action.Text, Ascending.Ascend, Ascending.Ascend-prop}

-- the key is one of these
abbrev pub has_key : Vec (Bor Text) Global → Text → Bool
has_key keys k = list_any (bytes_eq k) (map (λ t. t.now) keys.items)

-- more than a few ascend
abbrev pub IsSearchable : List Text → Type 0
IsSearchable texts = IsTrue (nat_lt FEW (length texts)) → Ascend texts

-- that they do is one fact
pub IsSearchable-prop : (texts : List Text) → IsProp (IsSearchable texts)
IsSearchable-prop texts = λ f g i long. Ascend-prop texts (f long) (g long) i

-- the key is one of these
abbrev pub is_one_of : List Text → Text → Bool
is_one_of keys q = list_any (bytes_eq q) keys
