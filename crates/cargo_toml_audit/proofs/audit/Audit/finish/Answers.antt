use Rattle.cargo_toml_audit.proofs.Cited.{ap, arith, common_steps, dependency_meaning, flat_map, is_in, map, map_meaning, oddities_of, shared_oddities, string_bytes, ◌++◌, ◌∙◌, ◌≡◌}
use Rattle.cargo_toml_audit.proofs.Taking.{takes_found}
use Rattle.cargo_toml_audit.proofs.audit.Audit.finish.Goals as goal

pub returns : goal.returns
returns g c =
    let a = c.args.self.now in
    let deps = map_meaning dependency_meaning c.args.workspace.now.dependencies in
    let one : oddities_of c.add_shared.new.findings ≡ oddities_of a.findings ++ flat_map (shared_oddities (is_in (map string_bytes a.inherited.items))) deps =
    c.in_ok-add_shared.ensures
    ∙ (λ i. oddities_of a.findings ++ flat_map (shared_oddities (λ t. (c.in_ok-inherited.ensures t ∙ ap (λ ts. is_in (map string_bytes ts) t) c.as_slice.ensures.value) i)) deps) in
    takes_found _ a c.append.new.self (grind (arith, common_steps, one))
