use Rattle.cargo_toml_package.proofs.Cited.{IsShape, ap, begins, codes, ends, ends_told, held_in, inherited_of, refl, shape, shape_list, table_view, told, wrong_shape}
use Rattle.cargo_toml_package.proofs.dependency.inherited_detail.Goals as goal

pub returns : goal.returns
returns c =
    let held = held_in _ _ c.default-whole.ensures in
    let ms = table_view c.args.table in
    let all = begins ms _ (inherited_of ms) (IsShape wrong_shape) c.new-reading.ensures in
    let features = told (codes "features") _ _ _ _ _ _ _ _ all refl (ap (λ d. d.features) held) (shape_list _ _) c.take.ensures.value c.take.ensures.left in
    let optional = told (codes "optional") _ _ _ _ _ _ _ _ features refl (ap (λ d. d.optional) held) (shape _ _) c.take-2.ensures.value c.take-2.ensures.left in
    let workspace = told (codes "workspace") _ _ _ _ _ _ _ _ optional refl (ap (λ d. d.workspace) held) (shape _ _) c.take-3.ensures.value c.take-3.ensures.left in
    ends _ _ _ _ _ _ c.ended.ensures (ends_told _ workspace)
