-- What the table of a feature says beside what the feature enables.
use Rattle.std.specs.Prelude.{ℕ, List, Bool, true, ◌&&◌, Option, None}
use Rattle.std.specs.Prelude.{is_none, option_map, string_bytes}
use Rattle.cargo_toml_package.specs.declared.target.FeatureDetail.{FeatureDetail}

-- whether users of the package are meant to name the feature, and what is said of it
pub record Detail : Type 0 where
  pub public : Bool
  pub doc : Option (List ℕ)

-- what is said of a feature
abbrev pub detail_of : FeatureDetail → Detail
detail_of d = record { public = d.public; doc = option_map string_bytes d.doc }

-- what is said of a feature where nothing is written
abbrev pub plain_detail : Detail
plain_detail = record { public = true; doc = None }

-- nothing is said: it is public, and has no text
abbrev pub is_plain : Detail → Bool
is_plain d = d.public && is_none d.doc
