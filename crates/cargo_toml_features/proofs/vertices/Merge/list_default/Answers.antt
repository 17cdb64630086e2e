use Rattle.cargo_toml_features.proofs.Cited.{Ascend, [], ap, codes, cond, plain_detail, subst, told_names, vertex_names, ◌++◌, ◌∙◌, ◌∷◌}
use Rattle.cargo_toml_features.proofs.vertices.Merge.list_default.Goals as goal

pub returns-clause-below : goal.returns-clause-below
returns-clause-below c = λ us h. c.in_ok-list.ensures.below us
    (subst (λ t. Ascend (vertex_names c.args.self.now.all.items ++ (told_names t ++ us)))
    (c.begins_with_default.ensures ∙ ap (λ b. cond b [] ((codes "default", ([], plain_detail)) ∷ [])) c.if-begins_with_default.false) h)
