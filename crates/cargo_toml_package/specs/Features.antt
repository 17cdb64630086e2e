-- Which trees are features: what each enables, and what is said of it beside.
use Rattle.std.specs.Prelude.{ℕ, List, [], ◌∷◌, if◌then◌else◌, map, true, not}
use Rattle.std.specs.Prelude.{Option, Some, option_map, String, Vec, string_bytes}
use Rattle.std.specs.BTreeMap.{BTreeMap}
use Rattle.std.specs.List.{filter}
use Rattle.std.specs.declared.alloc.Global.{Global}
use Rattle.toml.specs.Data.{Data, table, Members}
use Rattle.cargo_toml_parts.specs.Reads.{◌>>=◌, list_at, flag_at, text_at}
use Rattle.cargo_toml_parts.specs.Reads.{list_of, map_of, map_meaning}
use Rattle.cargo_toml_package.specs.declared.feature.WrittenFeature.{WrittenFeature}
use Rattle.cargo_toml_package.specs.declared.target.FeatureDetail.{FeatureDetail}
use Rattle.cargo_toml_package.specs.Details.{Detail, detail_of, plain_detail, is_plain}

-- what a feature enables, and what is said of it
abbrev pub feature_meaning : WrittenFeature → List (List ℕ) × Detail
feature_meaning f = (map string_bytes f.enables.items, detail_of f.detail)

-- a table: its list, and its other two keys
abbrev pub table_feature : Members → Option (List (List ℕ) × Detail)
table_feature ms = do
  enables ← list_at "enables" ms
  public ← flag_at "public" true ms
  doc ← text_at "doc" ms
  Some (enables, record { public = public; doc = doc })

-- a list, of which nothing is said
abbrev pub list_feature : Data → Option (List (List ℕ) × Detail)
list_feature d = option_map (λ enables. (enables, plain_detail)) (list_of d)

-- a list, or a table
abbrev pub feature_of : Data → Option (List (List ℕ) × Detail)
feature_of (table ms) = table_feature ms
feature_of d = list_feature d

-- what each feature enables
abbrev pub lists_of : List (List ℕ × (List (List ℕ) × Detail)) → List (List ℕ × List (List ℕ))
lists_of fs = map (λ f. (f.0, f.1.0)) fs

-- what is said of features, of each of which something is
abbrev pub details_of : List (List ℕ × (List (List ℕ) × Detail)) → List (List ℕ × Detail)
details_of fs = filter (λ e. not (is_plain e.1)) (map (λ f. (f.0, f.1.1)) fs)

-- the detail of one feature, unless it says nothing
abbrev pub said_of : List ℕ → Detail → List (List ℕ × Detail)
said_of name d = if is_plain d then [] else (name, d) ∷ []

-- the features of a manifest: the lists of all, and the details of some
abbrev pub FeaturesMeaning : Type 0
FeaturesMeaning = List (List ℕ × List (List ℕ)) × List (List ℕ × Detail)

-- what each feature enables, and what is said of them
abbrev pub apart : List (List ℕ × (List (List ℕ) × Detail)) → FeaturesMeaning
apart fs = (lists_of fs, details_of fs)

-- what two maps of features hold
abbrev pub features_meaning : BTreeMap (String Global) (Vec (String Global) Global)
    → BTreeMap (String Global) FeatureDetail → FeaturesMeaning
features_meaning lists details =
    (map_meaning (λ v. map string_bytes v.items) lists, map_meaning detail_of details)

-- no feature
abbrev pub no_features : FeaturesMeaning
no_features = ([], [])

-- the features of a table, each of which is read once
abbrev pub features_of : Data → Option FeaturesMeaning
features_of d = option_map apart (map_of feature_of d)
