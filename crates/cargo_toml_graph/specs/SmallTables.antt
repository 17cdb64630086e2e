-- Tables of worked examples.
use Rattle.std.specs.Prelude.{Bool, if◌then◌else◌, bytes_eq, List, [], ◌∷◌, codes}
use Rattle.cargo_toml_graph.specs.Action.{Text}
use Rattle.cargo_toml_graph.specs.Admitted.{Listed, is_explicit, names, joined_action}
use Rattle.cargo_toml_graph.specs.Graph.{Table, Resolution}
use Rattle.cargo_toml_graph.specs.Removal.{unremoved, without_all}

-- the feature f and no other
abbrev pub only : Text → Text → Bool
only f x = bytes_eq x f

-- what the listed features of a table say, where there are no dependencies
abbrev pub features_alone : Listed → Table
features_alone listed = record {
  has = is_explicit listed;
  names = names listed;
  action = joined_action listed;
}

-- a = ["_h"], _h = ["a"]
abbrev pub hidden_cycle : Table
hidden_cycle = features_alone ((codes "_h", codes "a" ∷ []) ∷ (codes "a", codes "_h" ∷ []) ∷ [])

-- k = ["_s"], _s = ["_s", "b"], b = []
abbrev pub hidden_names_itself : Table
hidden_names_itself =
    features_alone ((codes "_s", codes "_s" ∷ codes "b" ∷ []) ∷ (codes "b", [])
    ∷ (codes "k", codes "_s" ∷ []) ∷ [])

-- a = ["b", "zz"], b = ["a"]
abbrev pub ring : Table
ring = features_alone ((codes "a", codes "b" ∷ codes "zz" ∷ []) ∷ (codes "b", codes "a" ∷ []) ∷ [])

-- what is left of a table once features are taken out
abbrev pub left_of : Table → List Text → Resolution
left_of t removed = without_all removed (unremoved t)

-- k = ["_a", "_b"], _a = ["x"], _b = ["y"], x = [], y = []
abbrev pub two_hidden : Table
two_hidden =
    features_alone ((codes "_a", codes "x" ∷ []) ∷ (codes "_b", codes "y" ∷ [])
    ∷ (codes "k", codes "_a" ∷ codes "_b" ∷ []) ∷ (codes "x", []) ∷ (codes "y", []) ∷ [])

-- f = [], _h = ["f"]
abbrev pub hidden_parent : Table
hidden_parent = features_alone ((codes "_h", codes "f" ∷ []) ∷ (codes "f", []) ∷ [])

-- the binaries y and z require f, and x (twice) and y require _h
abbrev pub some_bins : Text → List Text
some_bins f =
    if bytes_eq f (codes "f") then codes "y" ∷ codes "z" ∷ []
    else if bytes_eq f (codes "_h") then codes "x" ∷ codes "x" ∷ codes "y" ∷ [] else []

-- b = [], default = ["c"], a = ["x", "y", "z"], c = []
abbrev pub four : Listed
four =
    (codes "b", []) ∷ (codes "default", codes "c" ∷ [])
    ∷ (codes "a", codes "x" ∷ codes "y" ∷ codes "z" ∷ []) ∷ (codes "c", []) ∷ []
