use Rattle.cargo_toml_program.proofs.Cited.{Asked, Bor, Err, FilterTells, IfOk, IfOk-weaker, IsParsed, None, Ok, Option, Result, Some, answer_of, ap, false, false≢true, is_some, manifest_meaning, refl, subst, sym, ℕ, ◌∙◌, ◌≡◌}
use Rattle.std.proofs.Common.{OnOk}
use Rattle.cargo_toml_program.proofs.printing.lines_of.Goals as goal

-- without a filter no name is kept
keeps_none : {F : Type 0} (g : Asked F) (filter : Option (Bor F)) → filter ≡ None → FilterTells g filter (λ _. false)
keeps_none g None e = λ n. refl
keeps_none g (Some f) e = absurd (false≢true (sym (ap is_some e)))

-- a fact of a value, and one that holds where there is one
both : {T E : Type 0} (r : Result T E) (P : T → Type 0) (Q : Type 0) → IfOk r P → OnOk r Q → IfOk r (λ x. P x × Q)
both (Ok x) P Q p q = (p, q)
both (Err e) P Q p q = tt

pub returns-clause-printed : goal.returns-clause-printed
returns-clause-printed c =
    let limited = c.with_max_items-resolver.ensures in
    let tells = keeps_none _ c.with_max_items-resolver.result.should_keep_hidden_feature (limited.filter ∙ c.new.ensures.unfiltered) in
    let a = c.in_ok-parse.field-0 in
    let parsed = subst (λ (n : ℕ). IsParsed n (manifest_meaning (λ m. m) c.args.manifest.now) (λ _. false) (answer_of a)) limited.limit
    (c.in_ok-parse.ensures.resolved.told (λ _. false) tells) in
    IfOk-weaker c.feature_lines.result _ _ (λ text told. (a, parsed, told.0, told.1))
    (both c.feature_lines.result _ _ c.feature_lines.ensures.lines c.feature_lines.ensures.in_order)
