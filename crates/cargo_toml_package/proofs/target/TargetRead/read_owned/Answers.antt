use Rattle.cargo_toml_package.proofs.Cited.{IsShape, ap, begins, codes, ends, ends_told, held_in, refl, shape_map, table_view, target_of, told, wrong_shape}
use Rattle.cargo_toml_package.proofs.target.TargetRead.read_owned.Goals as goal

pub returns-clause-reads : goal.returns-clause-reads
returns-clause-reads c =
    let held = held_in _ _ c.default-whole.ensures in
    let ms = table_view c.in_ok-rest.rest in
    let all = begins ms _ (target_of ms) (IsShape wrong_shape) c.new-reading.ensures in
    let dependencies = told (codes "dependencies") _ _ _ _ _ _ _ _ all refl (ap (λ t. t.dependencies) held) (shape_map _ _) c.take.ensures.value c.take.ensures.left in
    let dev_dependencies = told (codes "dev-dependencies") _ _ _ _ _ _ _ _ dependencies refl (ap (λ t. t.dev_dependencies) held) (shape_map _ _) c.take-2.ensures.value c.take-2.ensures.left in
    let build_dependencies = told (codes "build-dependencies") _ _ _ _ _ _ _ _ dev_dependencies refl (ap (λ t. t.build_dependencies) held) (shape_map _ _) c.take-3.ensures.value c.take-3.ensures.left in
    rw c.in_ok-rest.ensures.reads (ends _ _ _ _ _ _ c.ended.ensures (ends_told _ build_dependencies))
