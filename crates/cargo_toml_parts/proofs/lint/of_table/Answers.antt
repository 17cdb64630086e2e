use Rattle.std.proofs.Common.{[], Some, ap, codes, refl, sym, ◌∙◌}
use Rattle.toml.specs.View.{table_view}
use Rattle.cargo_toml_parts.specs.Faults.{IsShape, wrong_shape}
use Rattle.cargo_toml_parts.specs.Lints.{lint_keys, table_lint}
use Rattle.cargo_toml_parts.specs.Reads.{others_read}
use Rattle.cargo_toml_parts.proofs.Chain.{ends, shape}
use Rattle.cargo_toml_parts.proofs.Places.{all_left, begins, ends_left, known, told, told_required}
use Rattle.cargo_toml_parts.proofs.Shapes.{of_required}
use Rattle.cargo_toml_parts.proofs.Taken.{rest_read}
use Rattle.cargo_toml_parts.proofs.lint.of_table.Goals as goal

pub returns : goal.returns
returns c =
    let ms = table_view c.args.table in
    let all = begins ms _ (table_lint ms) (IsShape wrong_shape) c.new-reading.ensures in
    let level = told_required (codes "level") _ _ _ _ _ _ all refl (λ e h. of_required _ e h.1) c.take_required.ensures.value c.take_required.ensures.left in
    let priority = told (codes "priority") _ _ _ _ _ _ _ _ level refl (ap (λ l. l.priority) c.of_level-whole.ensures) (shape _ _) c.take.ensures.value c.take.ensures.left in
    ends _ _ _ _ _ _ c.ended.ensures (ends_left (others_read [] (λ d. Some d)) (λ n. IsShape wrong_shape) _ _ _ _ _ priority (rest_read lint_keys (λ d. Some d) ms) (λ e h. h)
    (known _ _ _ _ (all_left c.take.new.rest.entries ∙ ap Some (sym c.without_spare.ensures))) refl)
