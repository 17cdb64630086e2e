use Rattle.std.proofs.Common.{codes, refl, rules}
use Rattle.toml.specs.View.{table_view}
use Rattle.cargo_toml_parts.specs.Faults.{IsShape, wrong_shape}
use Rattle.cargo_toml_parts.proofs.Chain.{ends, shape}
use Rattle.cargo_toml_parts.proofs.Places.{begins, ends_told, told, told_optional, told_required}
use Rattle.cargo_toml_parts.proofs.Shapes.{of_required}
use Rattle.cargo_toml_parts.specs.Badges.{badge_of}
use Rattle.cargo_toml_parts.proofs.badge.read_badge.Goals as goal

pub returns : goal.returns
returns c =
    let ms = table_view c.args.table in
    let all = begins ms _ (badge_of ms) (IsShape wrong_shape) c.new-reading.ensures in
    let repository = told_required (codes "repository") _ _ _ _ _ _ all refl (λ e h. of_required _ e h.1) c.take_required.ensures.value c.take_required.ensures.left in
    let branch = told (codes "branch") _ _ _ _ _ _ _ _ repository refl (search rules) (shape _ _) c.take.ensures.value c.take.ensures.left in
    let service = told_optional (codes "service") _ _ _ _ _ _ _ branch refl refl (shape _ _) c.take_optional.ensures.value c.take_optional.ensures.left in
    let id = told_optional (codes "id") _ _ _ _ _ _ _ service refl refl (shape _ _) c.take_optional-2.ensures.value c.take_optional-2.ensures.left in
    let project_name = told_optional (codes "project-name") _ _ _ _ _ _ _ id refl refl (shape _ _) c.take_optional-3.ensures.value c.take_optional-3.ensures.left in
    ends _ _ _ _ _ _ c.ended.ensures (ends_told _ project_name)
