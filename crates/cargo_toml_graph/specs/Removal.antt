-- Taking one feature after another out of a resolution: the steps that the laws of
-- elimination speak of.
use Rattle.std.specs.Prelude.{◌≡◌, IsTrue, ◌&&◌, ◌||◌, not, if◌then◌else◌, List, [], ◌∷◌}
use Rattle.std.specs.Prelude.{◌++◌, take, bytes_eq, nat_eq, codes, Bool, false, Option}
use Rattle.std.specs.{List.list_any, List.starts_with, Option.option_map_or}
use Rattle.cargo_toml_graph.specs.Action.{Text, Action, join_option}
use Rattle.cargo_toml_graph.specs.Graph.{Table, Resolution}

-- the removed features; `keep` is what the filter answers
abbrev pub is_removed : Table → (Text → Bool) → Text → Bool
is_removed t keep f = t.has f && starts_with nat_eq f (codes "_") && not (keep f)

-- whether an action is plain, as a test
abbrev pub acts_plainly : Option Action → Bool
acts_plainly o = option_map_or (λ a. not a.is_conditional && not a.is_dep_only) o false

-- whether an edge leads from f to g, as a test
abbrev pub is_edge : Table → Text → Text → Bool
is_edge t f g =
    t.has f && t.has g && not (bytes_eq f g) && (t.names f g || acts_plainly (t.action f g))

-- what the removal starts with: the table, and the sources of its edges
abbrev pub unremoved : Table → Resolution
unremoved t = record { table = t; enabled_by = λ f e. is_edge t e f }

-- r is taken out: its parents name what it named and act as it did, and what it enabled is
-- enabled by its parents
abbrev pub without_one : Text → Resolution → Resolution
without_one r m = record {
  table = record {
    has = λ f. m.table.has f && not (bytes_eq f r);
    names =
        λ f x.
        if m.enabled_by r f then (m.table.names f x || m.table.names r x) && not (bytes_eq x r)
        else m.table.names f x;
    action =
        λ f k. if m.enabled_by r f then join_option (m.table.action f k) (m.table.action r k)
        else m.table.action f k;
  };
  enabled_by =
      λ f e. if m.enabled_by f r then (m.enabled_by f e || m.enabled_by r e) && not (bytes_eq e r)
      else m.enabled_by f e;
}

-- these are taken out, one after another
abbrev pub without_all : List Text → Resolution → Resolution
without_all [] m = m
without_all (r ∷ rs) m = without_all rs (without_one r m)

-- whether x is one of xs
abbrev pub lists_text : List Text → Text → Bool
lists_text xs x = list_any (bytes_eq x) xs

-- each of ys is put at the end, unless it is there
abbrev pub put_each : List Text → List Text → List Text
put_each xs [] = xs
put_each xs (y ∷ ys) = put_each (if lists_text xs y then xs else (xs ++ y ∷ [])) ys

-- r's first ten binaries are passed on to each feature that it names
abbrev pub pass_bins : Resolution → Text → (Text → List Text) → Text → List Text
pass_bins m r bins f = if m.table.names r f then put_each (bins f) (take 10 (bins r)) else bins f

-- these pass their binaries on, each at its turn and then taken out
abbrev pub pass_all : List Text → Resolution → (Text → List Text) → Text → List Text
pass_all [] m bins = bins
pass_all (r ∷ rs) m bins = pass_all rs (without_one r m) (pass_bins m r bins)

-- the same features, and each holds the same
pub record SameKept (m n : Resolution) : Type 0 where
  pub has : (f : Text) → m.table.has f ≡ n.table.has f
  pub names : (f x : Text) → IsTrue (m.table.has f) → m.table.names f x ≡ n.table.names f x
  pub action : (f k : Text) → IsTrue (m.table.has f) → m.table.action f k ≡ n.table.action f k
  pub enabled_by : (f e : Text) → IsTrue (m.table.has f) → m.enabled_by f e ≡ n.enabled_by f e
