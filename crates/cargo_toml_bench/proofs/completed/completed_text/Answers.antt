use Rattle.cargo_toml_bench.proofs.Cited.{IfOk-weaker, IfSome, IsPrinted, IsTold, Manifest, Option, SharedIsTold, Some, Spells, Value, Workspace, WorkspaceMeets, arith, from, held, manifest_meaning, option_map, parse_document, shared_of, string_bytes, subst, sym, told, view, workspace_meaning}
use Rattle.cargo_toml_bench.proofs.completed.completed_text.Goals as goal

-- what a workspace that is told gives is told
shared_told : (w : Option (Workspace Value)) → IfSome (option_map (workspace_meaning view) w) (WorkspaceMeets told) → IfSome (shared_of w) SharedIsTold
shared_told w h = grind arith

pub returns : goal.returns
returns g c =
    let old : Manifest Value = c.deref_mut-manifest.result.now in
    let new : Manifest Value = c.complete_from_abstract_filesystem.new.self in
    let workspace : Manifest Value = c.deref.result.now in
    let read = c.read_manifests_are_told.ensures.of_document in
    let spelled : Spells c.args.member.now (manifest_meaning view old) =
    subst (λ (x : Manifest Value). Spells c.args.member.now (manifest_meaning view x)) (sym c.deref_mut-manifest.ensures.value) c.in_ok-held.ensures.manifest in
    let root_spelled : Spells c.args.root.now (manifest_meaning view workspace) =
    subst (λ (x : Manifest Value). Spells c.args.root.now (manifest_meaning view x)) (sym c.deref.ensures) c.in_ok-root.ensures.manifest in
    let law = c.completed_manifests_are_told.ensures in
    let completed = c.in_ok-complete_from_abstract_filesystem.ensures.completed in
    let is_told : IsTold (manifest_meaning view new) =
    (law.alike new).0 (law.completed (held old) (held new) (from (Some (shared_of workspace.workspace, c.args.path.now))) _
    ((law.alike old).1 (read (parse_document c.args.member.now) (manifest_meaning view old) spelled.reads))
    (shared_told workspace.workspace (read (parse_document c.args.root.now) (manifest_meaning view workspace) root_spelled.reads).workspace) completed.given.2.1) in
    IfOk-weaker c.manifest_text.result (λ text. IsTold (manifest_meaning view new) → IsPrinted (manifest_meaning view new) (string_bytes text)) _
    (λ text printed. record {
      member = old;
      spelled = spelled;
      workspace = workspace;
      root_spelled = root_spelled;
      whole = new;
      completed = completed;
      printed = printed is_told;
    })
    c.manifest_text.ensures
