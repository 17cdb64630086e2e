use Rattle.cargo_toml_package.proofs.Cited.{IsShape, begins, codes, ends, ends_told, refl, rules, shape, shape_list, table_feature, table_view, told, told_optional, wrong_shape}
use Rattle.cargo_toml_package.proofs.feature.of_table.Goals as goal

pub returns : goal.returns
returns c =
    let ms = table_view c.args.table in
    let all = begins ms _ (table_feature ms) (IsShape wrong_shape) c.new-reading.ensures in
    let enables = told (codes "enables") _ _ _ _ _ _ _ _ all refl (search rules) (shape_list _ _) c.take.ensures.value c.take.ensures.left in
    let public = told (codes "public") _ _ _ _ _ _ _ _ enables refl (search rules) (shape _ _) c.take-2.ensures.value c.take-2.ensures.left in
    let doc = told_optional (codes "doc") _ _ _ _ _ _ _ public refl (search rules) (shape _ _) c.take_optional.ensures.value c.take_optional.ensures.left in
    ends _ _ _ _ _ _ c.ended.ensures (ends_told _ doc)
