use Rattle.cargo_toml_audit.proofs.Cited.{Bor, Decides-eqb, Features, NoLints, None, NotInherited, Option, OtherWorkspace, Outside, Some, Text, TwoWorkspaces, WorkspaceWithin, [], ap, btree_map_len, field_is_left, held, is_some, leads_elsewhere, named_by, not, option_map, refl, rules, same_from_decides, ◌&&◌, ◌∙◌, ◌∷◌, ◌≡◌}
use Rattle.cargo_toml_audit.proofs.audit.findings.refusal_rows.Goals as goal

still_some : (o : Option (Bor Text)) → is_some o ≡ is_some (option_map (λ t. t.now) o)
still_some None = refl
still_some (Some t) = refl

pub returns : goal.returns
returns g c =
    let m = held c.args.written.now in
    let place = c.args.at.0.now in
    let root = c.args.root.place.now in
    let lacks = same_from_decides _ _ c.is_empty-lacks_lints.ensures (Decides-eqb (btree_map_len c.args.root.workspace.now.lints) 0) in
    let lints : not c.is_set-leaves_lints.result ≡ field_is_left m.lints = search rules in
    let own : c.is_some-has_own.result ≡ is_some m.workspace = search rules in
    let named : c.is_some-is_named.result ≡ is_some (named_by m.«package») =
    c.is_some-is_named.ensures ∙ still_some c.named_by-named.result ∙ ap is_some c.named_by-named.ensures in
    let elsewhere = c.in_ok-is_elsewhere.ensures ∙ ap (leads_elsewhere place root) c.named_by-named.ensures in
    λ i. (Features, c.args.has_errors) ∷ (NoLints, lacks i && lints i) ∷ (NotInherited, c.in_ok-not_inherited.ensures i)
    ∷ (OtherWorkspace, elsewhere i && not (own i)) ∷ (Outside, not c.args.at.1 && not (named i)) ∷ (TwoWorkspaces, named i && own i)
    ∷ (WorkspaceWithin, own i && c.ne-is_apart.ensures i) ∷ []
