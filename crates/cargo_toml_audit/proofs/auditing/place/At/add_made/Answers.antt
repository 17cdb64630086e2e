use Rattle.cargo_toml_audit.proofs.Cited.{Base, Incomplete, IsCompleted, IsCompletedThere, Manifest, MatchOption-at_some, Some, Value, any_root, append_assoc, arith, base_of, completed_handed, found_if, incomplete, none_found, real_folders, real_roots, shared_of, subst, sym, targets_found, told, true, untold, ◌++◌, ◌∙◌, ◌≡◌}
use Rattle.cargo_toml_audit.proofs.Taking.{takes_both, takes_found}
use Rattle.cargo_toml_audit.proofs.auditing.place.At.add_made.Goals as goal

-- the manifest m, lent as x, was completed to what is lent as new
completed_there : (base : Base) (m x made new : Manifest Value) → x ≡ m → new ≡ made
    → IsCompleted x (Some (shared_of base.manifest.workspace, base.path)) real_roots any_root real_folders made → IsCompletedThere base m new
completed_there base m x made new lent again done =
    subst (λ (y : Manifest Value). IsCompletedThere base y new) lent (subst (λ (y : Manifest Value). IsCompletedThere base x y) (sym again)
    (completed_handed x made (shared_of base.manifest.workspace, base.path) real_roots any_root none_found real_folders done))

pub returns-in-Err-clause-added : goal.returns-in-Err-clause-added
returns-in-Err-clause-added g c = record {
  made = incomplete c.in-Err.fault;
  is_made = λ _. (c.in_ok-refuse.ensures.memory, rw (c.deref_mut.ensures.value, c.as_str.ensures.value ∙ c.in_ok-path.ensures) at c.in-Err.ensures.refused);
  takes = takes_found _ c.args.audit.now c.refuse.new.findings c.in_ok-refuse.ensures.found;
}

pub returns-in-Some-clause-added : goal.returns-in-Some-clause-added
returns-in-Some-clause-added g c =
    let base = base_of c.args.self.now.root in
    let new = c.deref-manifest.result.now in
    let there = completed_there base c.args.held.manifest.value _ _ new c.deref_mut.ensures.value c.deref-manifest.ensures c.in_default.ensures.completed in
    record {
      made = told new c.in-Some.member;
      is_made = λ same. (there, rw same at (MatchOption-at_some _ _ c.in-Some.member c.in-Some.is c.in_ok-member.ensures.told));
      takes = takes_both _ _ _ _ _
          (takes_found (targets_found base c.args.self.now.place.now new) c.args.audit.now c.find_if.new.findings
          (rw c.has_no_target-no_target.ensures at c.in_ok-find_if.ensures))
          c.in_ok-add_member-in-Some.ensures;
    }

pub returns-clause-added : goal.returns-clause-added
returns-clause-added g c =
    let base = base_of c.args.self.now.root in
    let place = c.args.self.now.place.now in
    let new = c.deref-manifest.result.now in
    let there = completed_there base c.args.held.manifest.value _ _ new c.deref_mut.ensures.value c.deref-manifest.ensures c.in_default.ensures.completed in
    record {
      made = untold new;
      is_made = λ same. (there, c.in_ok-member.ensures.untold c.in-None.is);
      takes = takes_found (targets_found base place new ++ found_if Incomplete true place) c.args.audit.now c.find.new.findings
          (grind (arith, append_assoc, c.in_ok-find-in-None.ensures, c.in_ok-find_if.ensures, c.has_no_target-no_target.ensures));
    }
