-- Features as a list in the byte order of their names, and maps in that order.
use Rattle.std.specs.Prelude.{◌≡◌, List, [], Option, IfSome, bytes_eq, is_some, map}
use Rattle.std.specs.{List.find}
use Rattle.cargo_toml_features.specs.{declared.features.Feature.Feature, Views.resolution_by}
use Rattle.cargo_toml_features.specs.{Views.table_by, Marks.NamedDetails}
use Rattle.cargo_toml_features.specs.{Marks.marks_in, Marks.marks_of, Recorded.Entry}
use Rattle.cargo_toml_features.specs.Resolved.{table_of}
use Rattle.cargo_toml_graph.specs.{Ascending.Ascend, Action.Text, Graph.Table, Graph.Resolution}
use Rattle.cargo_toml_graph.specs.Admitted.{Listed}

abbrev pub names_of : List Feature → List Text
names_of vs = map (λ v. v.key.now) vs

-- each name is below those after it
abbrev pub AreInOrder : List Feature → Type 0
AreInOrder vs = Ascend (names_of vs)

-- the feature of a name
abbrev pub feature_at : List Feature → Text → Option Feature
feature_at vs f = find (λ v. bytes_eq f v.key.now) vs

-- none of them has its enablers yet
abbrev pub HaveNoEnablers : List Feature → Type 0
HaveNoEnablers vs = (f : Text) → IfSome (feature_at vs f) (λ v. v.enabled_by.keys ≡ [])

-- the features of a list
abbrev pub table_among : List Feature → Table
table_among vs = table_by (feature_at vs)

abbrev pub resolution_among : List Feature → Resolution
resolution_among vs = resolution_by (feature_at vs)

-- they make the table
pub record AreTable (t : Table) (vs : List Feature) : Type 0 where
  pub has : (f : Text) → is_some (feature_at vs f) ≡ t.has f
  pub names : (f x : Text) → (table_among vs).names f x ≡ t.names f x
  pub action : (f k : Text) → (table_among vs).action f k ≡ t.action f k

-- ---- the full graph
-- the features of what is listed, each with its marks and with the binaries that require it
pub record AreUnremoved (listed : Listed) (entries : List Entry) (details : NamedDetails)
    (own : Text → List Text) (vs : List Feature) : Type 0 where
  pub table : AreTable (table_of listed entries) vs
  pub marks : (f : Text) → IfSome (feature_at vs f) (λ v. marks_of v ≡ marks_in listed details f)
  pub bins : (f : Text) → IfSome (feature_at vs f)
      (λ v. map (λ b. b.now) v.required_by_bins.items ≡ own f)
