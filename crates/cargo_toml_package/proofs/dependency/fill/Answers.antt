use Rattle.cargo_toml_package.proofs.Cited.{IsShape, Some, [], all_left, ap, begins, codes, detail_keys, detail_of_table, ends_left, held_in, known, others_read, refl, rest_read, shape, shape_list, sym, table_view, told, told_optional, wrong_shape, ◌∙◌}
use Rattle.cargo_toml_package.proofs.dependency.fill.Goals as goal

-- each key in turn, and then what is left of the table
pub returns : goal.returns
returns c =
    let held = held_in _ _ c.requires in
    let ms = table_view c.args.table in
    let all = begins ms _ (detail_of_table ms) (IsShape wrong_shape) c.new-reading.ensures in
    let version = told_optional (codes "version") _ _ _ _ _ _ _ all refl (ap (λ d. d.version) held) (shape _ _) c.take_optional.ensures.value c.take_optional.ensures.left in
    let features = told (codes "features") _ _ _ _ _ _ _ _ version refl (ap (λ d. d.features) held) (shape_list _ _) c.take.ensures.value c.take.ensures.left in
    let optional = told (codes "optional") _ _ _ _ _ _ _ _ features refl (ap (λ d. d.optional) held) (shape _ _) c.take-2.ensures.value c.take-2.ensures.left in
    let default_features = told (codes "default-features") _ _ _ _ _ _ _ _ optional refl (ap (λ d. d.default_features) held) (shape _ _) c.take-3.ensures.value c.take-3.ensures.left in
    let «package» = told_optional (codes "package") _ _ _ _ _ _ _ default_features refl (ap (λ d. d.package) held) (shape _ _) c.take_optional-2.ensures.value c.take_optional-2.ensures.left in
    let registry = told_optional (codes "registry") _ _ _ _ _ _ _ «package» refl (ap (λ d. d.registry) held) (shape _ _) c.take_optional-3.ensures.value c.take_optional-3.ensures.left in
    let registry_index = told_optional (codes "registry-index") _ _ _ _ _ _ _ registry refl (ap (λ d. d.registry_index) held) (shape _ _) c.take_optional-4.ensures.value c.take_optional-4.ensures.left in
    let path = told_optional (codes "path") _ _ _ _ _ _ _ registry_index refl (ap (λ d. d.path) held) (shape _ _) c.take_optional-5.ensures.value c.take_optional-5.ensures.left in
    let git = told_optional (codes "git") _ _ _ _ _ _ _ path refl (ap (λ d. d.git) held) (shape _ _) c.take_optional-6.ensures.value c.take_optional-6.ensures.left in
    let branch = told_optional (codes "branch") _ _ _ _ _ _ _ git refl (ap (λ d. d.branch) held) (shape _ _) c.take_optional-7.ensures.value c.take_optional-7.ensures.left in
    let tag = told_optional (codes "tag") _ _ _ _ _ _ _ branch refl (ap (λ d. d.tag) held) (shape _ _) c.take_optional-8.ensures.value c.take_optional-8.ensures.left in
    let rev = told_optional (codes "rev") _ _ _ _ _ _ _ tag refl (ap (λ d. d.rev) held) (shape _ _) c.take_optional-9.ensures.value c.take_optional-9.ensures.left in
    ends_left (others_read [] (λ d. Some d)) (λ n. IsShape wrong_shape) _ _ _ _ _ rev (rest_read detail_keys (λ d. Some d) ms) (λ e h. h)
    (known _ _ _ _ (all_left c.take_optional-9.new.rest.entries ∙ ap Some (sym c.without_spare.ensures))) (rw (ap (λ d. d.inherited) held) refl)
