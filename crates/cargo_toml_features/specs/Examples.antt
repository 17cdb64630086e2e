-- Tables of worked examples with dependencies.
use Rattle.std.specs.Prelude.{Bool, true, false, List, [], ◌∷◌, Option, Some, None, codes}
use Rattle.cargo_toml_package.specs.Dependencies.{DependencyMeaning, detailed, simple, no_detail}
use Rattle.cargo_toml_features.specs.declared.features.Kind.TheVariants.{Normal, Build, Dev}
use Rattle.cargo_toml_features.specs.{Recorded.Entry, Resolved.table_of}
use Rattle.cargo_toml_graph.specs.{Action.Text, Admitted.Listed, Graph.Table}

-- a detail with its package, its features and whether it is optional, and nothing else
abbrev pub detail : Option Text → List Text → Bool → DependencyMeaning
detail name features optional = detailed (record no_detail {
  «package» = name;
  features = features;
  optional = optional;
})

-- an entry of a manifest's normal dependencies
abbrev pub entry : Text → Bool → Entry
entry key optional =
    record { key = key; target = (Normal, None); dependency = detail None [] optional }

-- a manifest of the features default = ["fast"] and fast = ["log/std"], with an
-- optional dependency log
abbrev pub small_listed : Listed
small_listed = (codes "default", codes "fast" ∷ []) ∷ (codes "fast", codes "log/std" ∷ []) ∷ []

abbrev pub small_entries : List Entry
small_entries = entry (codes "log") true ∷ []

abbrev pub small : Table
small = table_of small_listed small_entries

-- k = ["_h", "d?/a"], _h = ["d/b"], with a dependency d
abbrev pub hidden_plain : Table
hidden_plain =
    table_of ((codes "_h", codes "d/b" ∷ []) ∷ (codes "k", codes "_h" ∷ codes "d?/a" ∷ []) ∷ [])
    (entry (codes "d") false ∷ [])

-- k = ["_d/x"], _d = ["b"], b = [], with a dependency _d
abbrev pub hidden_key : Table
hidden_key =
    table_of ((codes "_d", codes "b" ∷ []) ∷ (codes "b", []) ∷ (codes "k", codes "_d/x" ∷ []) ∷ [])
    (entry (codes "_d") false ∷ [])

-- k = ["_h"], _h = ["opt?/f"], with an optional dependency opt
abbrev pub hidden_conditional : Table
hidden_conditional =
    table_of ((codes "_h", codes "opt?/f" ∷ []) ∷ (codes "k", codes "_h" ∷ []) ∷ [])
    (entry (codes "opt") true ∷ [])

-- d = [], _a = ["dep:d"], _p = ["d/x", "_a"], k = ["_p"], with an optional dependency d
abbrev pub hidden_dep_only : Table
hidden_dep_only =
    table_of ((codes "_a", codes "dep:d" ∷ []) ∷ (codes "_p", codes "d/x" ∷ codes "_a" ∷ [])
    ∷ (codes "d", []) ∷ (codes "k", codes "_p" ∷ []) ∷ []) (entry (codes "d") true ∷ [])

-- entries of the key d in the three kinds: not optional, then optional with the package
-- q, then not optional
abbrev pub three_kinds : List Entry
three_kinds =
    record { key = codes "d"; target = (Normal, None); dependency = simple [] }
    ∷ record {
      key = codes "d";
      target = (Build, None);
      dependency = detail (Some (codes "q")) [] true;
    }
    ∷ record { key = codes "d"; target = (Dev, None); dependency = simple [] }
    ∷ []

-- two entries of the key d with one target, of which the second is optional
abbrev pub twice : List Entry
twice =
    record { key = codes "d"; target = (Normal, None); dependency = simple [] }
    ∷ entry (codes "d") true
    ∷ []

-- x = ["d/default", "d/f"], where d stands without target as given, and for `cfg(unix)`
-- with the feature f
abbrev pub redundancy : DependencyMeaning → Table
redundancy first = table_of ((codes "x", codes "d/default" ∷ codes "d/f" ∷ []) ∷ []) (
    record {
      key = codes "d";
      target = (Normal, Some (codes "cfg(unix)"));
      dependency = detail None (codes "f" ∷ []) false;
    }
    ∷ record { key = codes "d"; target = (Normal, None); dependency = first }
    ∷ []
    )
