-- What a feature has beside what it does: its marks. Resolving takes them from where the feature is
-- listed.
use Rattle.std.specs.Prelude.{Bool, if◌then◌else◌, List, map, Option, Some, None, bytes_eq, is_some}
use Rattle.std.specs.{Prelude.unwrap_or, Option.option_copied, Borrow.Bor, Map.lookup}
use Rattle.cargo_toml_package.specs.Details.{Detail, detail_of, plain_detail}
use Rattle.cargo_toml_package.specs.declared.target.FeatureDetail.{FeatureDetail}
use Rattle.cargo_toml_features.specs.declared.admit.Listing.{Listing}
use Rattle.cargo_toml_features.specs.declared.features.Feature.{Feature}
use Rattle.cargo_toml_graph.specs.{Action.Text, Admitted.Listed, Admitted.is_explicit}

-- whether it is listed, whether it is public, and its text
pub record FeatureMarks : Type 0 where
  pub explicit : Bool
  pub public : Bool
  pub doc : Option Text

-- the marks of a feature of an answer
abbrev pub marks_of : Feature → FeatureMarks
marks_of v = record { explicit = v.explicit; public = v.public; doc = option_copied v.doc }

-- the marks of a feature of which this is said
abbrev pub marked : Bool → Detail → FeatureMarks
marked explicit d = record { explicit = explicit; public = d.public; doc = d.doc }

-- what a manifest says of features beside their lists, by name
abbrev pub NamedDetails : Type 0
NamedDetails = List (Text × Detail)

-- what is said of f; nothing where there is no entry
abbrev pub detail_named : NamedDetails → Text → Detail
detail_named details f = unwrap_or (lookup (bytes_eq f) details) plain_detail

-- what is said of f where it is listed; nothing of another, whatever entry it has
abbrev pub detail_listed : Listed → NamedDetails → Text → Detail
detail_listed listed details f =
    if is_some (lookup (bytes_eq f) listed) then detail_named details f else plain_detail

-- the marks of f: of a feature that isn't listed, an added `default` or an implied
-- one, nothing is said
abbrev pub marks_in : Listed → NamedDetails → Text → FeatureMarks
marks_in listed details f = marked (is_explicit listed f) (detail_listed listed details f)

-- what one listing says
abbrev pub detail_in : Option (Bor FeatureDetail) → Detail
detail_in None = plain_detail
detail_in (Some d) = detail_of d.now

-- what listings say
abbrev pub named_details : List Listing → NamedDetails
named_details ls = map (λ l. (l.name.now, detail_in l.detail)) ls

-- of each listed name what is said of it
abbrev pub details_listed : Listed → NamedDetails → NamedDetails
details_listed listed details = map (λ e. (e.0, detail_named details e.0)) listed
