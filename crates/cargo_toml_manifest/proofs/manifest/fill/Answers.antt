use Rattle.cargo_toml_manifest.proofs.Cited.{ManifestFaults, None, WrongShape, ap, begins, codes, held_in, itself, list_shape, manifest_of, map_shape, means_none, plain, refl, table_view, takes, takes_last, takes_optional}
use Rattle.cargo_toml_manifest.proofs.manifest.fill.Goals as goal

-- each key in turn: what is left of the table, and what was read
pub returns : goal.returns
returns g c =
    let held = held_in _ _ (c.requires (λ d. None)) in
    let ms = table_view c.args.table in
    let meta = g.Metadata.FromValue.from_tree in
    let all = begins ms _ (manifest_of meta ms) (ManifestFaults meta g.Metadata.FromValue.from_refuses ms) c.new-reading.ensures in
    let «package» = takes_optional (codes "package") _ _ _ _ _ _ _ _ all refl (means_none _ _ _ (ap (λ m. m.package) held)) c.take_optional.ensures.value c.take_optional.ensures.left in
    let workspace = takes_optional (codes "workspace") _ _ _ _ _ _ _ _ «package» refl (means_none _ _ _ (ap (λ m. m.workspace) held)) c.take_optional-2.ensures.value c.take_optional-2.ensures.left in
    let dependencies = takes (codes "dependencies") _ _ _ _ _ _ _ _ _ workspace refl (ap (λ m. m.dependencies) held) (plain _ _ _ _ _ _ _ (map_shape _ WrongShape itself) c.take.ensures.value) c.take.ensures.left in
    let dev_dependencies = takes (codes "dev-dependencies") _ _ _ _ _ _ _ _ _ dependencies refl (ap (λ m. m.dev_dependencies) held) (plain _ _ _ _ _ _ _ (map_shape _ WrongShape itself) c.take-2.ensures.value) c.take-2.ensures.left in
    let build_dependencies = takes (codes "build-dependencies") _ _ _ _ _ _ _ _ _ dev_dependencies refl (ap (λ m. m.build_dependencies) held) (plain _ _ _ _ _ _ _ (map_shape _ WrongShape itself) c.take-3.ensures.value) c.take-3.ensures.left in
    let target = takes (codes "target") _ _ _ _ _ _ _ _ _ build_dependencies refl (ap (λ m. m.target) held) (plain _ _ _ _ _ _ _ (map_shape _ WrongShape itself) c.take-4.ensures.value) c.take-4.ensures.left in
    let features = takes (codes "features") _ _ _ _ _ _ _ _ _ target refl refl c.take_features.ensures.value c.take_features.ensures.left in
    let replace = takes (codes "replace") _ _ _ _ _ _ _ _ _ features refl (ap (λ m. m.replace) held) (plain _ _ _ _ _ _ _ (map_shape _ WrongShape itself) c.take-5.ensures.value) c.take-5.ensures.left in
    let patch = takes (codes "patch") _ _ _ _ _ _ _ _ _ replace refl (ap (λ m. m.patch) held) (plain _ _ _ _ _ _ _ (map_shape _ _ (map_shape _ WrongShape itself)) c.take-6.ensures.value) c.take-6.ensures.left in
    let lib = takes_optional (codes "lib") _ _ _ _ _ _ _ _ patch refl (ap (λ m. m.lib) held) c.take_optional-3.ensures.value c.take_optional-3.ensures.left in
    let profile = takes (codes "profile") _ _ _ _ _ _ _ _ _ lib refl (ap (λ m. m.profile) held) c.take-7.ensures.value c.take-7.ensures.left in
    let badges = takes (codes "badges") _ _ _ _ _ _ _ _ _ profile refl (ap (λ m. m.badges) held) c.take-8.ensures.value c.take-8.ensures.left in
    let bin = takes (codes "bin") _ _ _ _ _ _ _ _ _ badges refl (ap (λ m. m.bin) held) (plain _ _ _ _ _ _ _ (list_shape _) c.take-9.ensures.value) c.take-9.ensures.left in
    let bench = takes (codes "bench") _ _ _ _ _ _ _ _ _ bin refl (ap (λ m. m.bench) held) (plain _ _ _ _ _ _ _ (list_shape _) c.take-10.ensures.value) c.take-10.ensures.left in
    let test = takes (codes "test") _ _ _ _ _ _ _ _ _ bench refl (ap (λ m. m.test) held) (plain _ _ _ _ _ _ _ (list_shape _) c.take-11.ensures.value) c.take-11.ensures.left in
    let example = takes (codes "example") _ _ _ _ _ _ _ _ _ test refl (ap (λ m. m.example) held) (plain _ _ _ _ _ _ _ (list_shape _) c.take-12.ensures.value) c.take-12.ensures.left in
    takes_last (codes "lints") _ _ _ _ _ _ _ _ example refl (ap (λ m. m.lints) held) c.take-13.ensures.value (rw c.rule_option.ensures refl)
