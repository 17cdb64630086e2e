use Rattle.cargo_toml_audit.proofs.Cited.{string_bytes, sym, zip_same, ◌∙◌}
use Rattle.cargo_toml_audit.proofs.Walked.{told_names}
use Rattle.cargo_toml_audit.proofs.members.walk.Looking.names_in.Goals as goal

pub returns-in-Some-clause-told : goal.returns-in-Some-clause-told
returns-in-Some-clause-told g c = λ d h.
    (h, zip_same string_bytes _ (λ x y e. e) _ _ c.in_ok-clone.ensures.cases.0 ∙ sym (h.names _ _ (sym c.in-Some.ensures.value)))

pub returns-clause-told : goal.returns-clause-told
returns-clause-told g c = λ d h.
    let t = told_names c.args.self.now.looks c.insert.new.self _ c.args.folder.now c.in_ok-listing.listing
    (sym c.in_default.ensures.value) c.in_ok-from_str.ensures.ok c.in_ok-insert.ensures.updates d h in
    (t.0, zip_same string_bytes _ (λ x y e. e) _ _ c.in_ok-names.ensures.cases.0 ∙ t.1)
