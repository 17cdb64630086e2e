use Rattle.cargo_toml_package.proofs.Cited.{Err, InheritedUnknownValue, Ok, Some, arith, common_steps, dependency_meaning, fault_of, inherited_meaning, inherited_unknown_value, inr, made_meaning, map, map_meaning, map_push, rules, string_bytes}
use Rattle.cargo_toml_package.proofs.{Inherited.gives_all, Near.fault_of-inherited, Near.push_made, Near.push_refused}
use Rattle.cargo_toml_package.proofs.workspace_dependencies.made_by.Goals as goal

pub loop-key-init : goal.loop-key-init
loop-key-init c = (grind (arith, common_steps), c.near_of-near.ensures (search rules))

pub returns-in_default-template_at : goal.returns-in_default-template_at
returns-in_default-template_at c =
    let found = c.template_at.ensures.found c.loop-key.invariant.1 in
    gives_all (Some (map_meaning dependency_meaning c.args.templates.now)) c.args.base.now (map_meaning dependency_meaning c.args.dependencies.now) (Err c.in_ok-missing.field-0)
    (inr (push_refused (map_meaning dependency_meaning c.args.templates.now) c.args.base.now (string_bytes c.in-Some.key.now) (inherited_meaning c.in-Inherited.entry)
    (map (λ e. (string_bytes e.0, dependency_meaning e.1)) c.loop-key.key-iterator) (map (λ e. (string_bytes e.0, dependency_meaning e.1)) c.next.new.self)
    (made_meaning c.loop-key.made) (fault_of c.in_ok-missing.field-0) _ (search rules) (search rules) c.loop-key.invariant.0))

pub returns-in_default-2 : goal.returns-in_default-2
returns-in_default-2 c =
    let found = c.in-Some-template_at.ensures.found c.loop-key.invariant.1 in
    let filled = c.in_ok-filled.ensures (string_bytes c.in-Some.key.now) in
    gives_all (Some (map_meaning dependency_meaning c.args.templates.now)) c.args.base.now (map_meaning dependency_meaning c.args.dependencies.now) (Err InheritedUnknownValue)
    (inr (rw fault_of-inherited (push_refused (map_meaning dependency_meaning c.args.templates.now) c.args.base.now (string_bytes c.in-Some.key.now) (inherited_meaning c.in-Inherited.entry)
    (map (λ e. (string_bytes e.0, dependency_meaning e.1)) c.loop-key.key-iterator) (map (λ e. (string_bytes e.0, dependency_meaning e.1)) c.next.new.self)
    (made_meaning c.loop-key.made) inherited_unknown_value _ (search rules) (search rules) c.loop-key.invariant.0)))

pub loop-key-preserved-in_ok-push : goal.loop-key-preserved-in_ok-push
loop-key-preserved-in_ok-push c =
    let found = c.in-Some-template_at.ensures.found c.loop-key.invariant.1 in
    let filled = c.in_ok-filled.ensures (string_bytes c.in-Some.key.now) in
    let pushed = push_made (map_meaning dependency_meaning c.args.templates.now) c.args.base.now (string_bytes c.in-Some.key.now) (inherited_meaning c.in-Inherited.entry)
    (map (λ e. (string_bytes e.0, dependency_meaning e.1)) c.loop-key.key-iterator) (map (λ e. (string_bytes e.0, dependency_meaning e.1)) c.next.new.self)
    (made_meaning c.loop-key.made) (dependency_meaning c.in-Some-2.filled) _ (search rules) (search rules) c.loop-key.invariant.0 in
    let more = map_push dependency_meaning c.loop-key.made.items c.in-Some-2.filled in
    (grind (arith, common_steps), c.template_at.ensures.near _ c.loop-key.invariant.1)

pub returns : goal.returns
returns c = gives_all (Some (map_meaning dependency_meaning c.args.templates.now)) c.args.base.now (map_meaning dependency_meaning c.args.dependencies.now) (Ok c.loop-key.made) (grind (arith, common_steps))
