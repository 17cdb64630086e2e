use Rattle.cargo_toml_package.proofs.Cited.{None, WorkspaceFaults, WrongShape, ap, begins, codes, ends, held_in, itself, list_shape, map_shape, means_none, plain, refl, table_view, takes, takes_last, takes_optional, workspace_of}
use Rattle.cargo_toml_package.proofs.workspace.read_table.Goals as goal

pub returns : goal.returns
returns g c =
    let held = held_in _ _ (c.default-whole.ensures (λ d. None)) in
    let ms = table_view c.args.table in
    let meta = g.Metadata.FromValue.from_tree in
    let all = begins ms _ (workspace_of meta ms) (WorkspaceFaults meta g.Metadata.FromValue.from_refuses ms) c.new-reading.ensures in
    let members = takes (codes "members") _ _ _ _ _ _ _ _ _ all refl (ap (λ w. w.members) held) (plain _ _ _ _ _ _ _ (list_shape _) c.take.ensures.value) c.take.ensures.left in
    let default_members = takes (codes "default-members") _ _ _ _ _ _ _ _ _ members refl (ap (λ w. w.default_members) held) (plain _ _ _ _ _ _ _ (list_shape _) c.take-2.ensures.value) c.take-2.ensures.left in
    let «package» = takes_optional (codes "package") _ _ _ _ _ _ _ _ default_members refl (ap (λ w. w.package) held) c.take_optional.ensures.value c.take_optional.ensures.left in
    let exclude = takes (codes "exclude") _ _ _ _ _ _ _ _ _ «package» refl (ap (λ w. w.exclude) held) (plain _ _ _ _ _ _ _ (list_shape _) c.take-3.ensures.value) c.take-3.ensures.left in
    let metadata = takes_optional (codes "metadata") _ _ _ _ _ _ _ _ exclude refl (means_none _ _ _ (ap (λ w. w.metadata) held)) c.take_metadata.ensures.value c.take_metadata.ensures.left in
    let resolver = takes_optional (codes "resolver") _ _ _ _ _ _ _ _ metadata refl (ap (λ w. w.resolver) held) c.take_optional-2.ensures.value c.take_optional-2.ensures.left in
    let dependencies = takes (codes "dependencies") _ _ _ _ _ _ _ _ _ resolver refl (ap (λ w. w.dependencies) held) (plain _ _ _ _ _ _ _ (map_shape _ WrongShape itself) c.take-4.ensures.value) c.take-4.ensures.left in
    ends _ _ _ _ _ _ c.ended.ensures (takes_last (codes "lints") _ _ _ _ _ _ _ _ dependencies refl (ap (λ w. w.lints) held) (plain _ _ _ _ _ _ _ (map_shape _ _ (map_shape _ WrongShape itself)) c.take-5.ensures.value) refl)
