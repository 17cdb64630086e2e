use Rattle.cargo_toml_check.proofs.Cited.{Data, Fault, IfOk-weaker, IsSome, List, ManifestMeaning, Option, [], any_tree, ap, document_reads, length, manifest_reads, nil_from_length, parse_document, reads, subst, sym, view-Table, ◌↔◌, ◌∙◌, ◌≡◌}
use Rattle.std.proofs.Common.{false, rules}
use Rattle.cargo_toml_depth.specs.Nesting.{is_too_deep}
use Rattle.cargo_toml_check.proofs.check.faults_in.Goals as goal

-- lists of one length are empty together
alike_empty : {A B : Type 0} {P : Type 0} (xs : List A) (ys : List B) → length xs ≡ length ys → (ys ≡ []) ↔ P → (xs ≡ []) ↔ P
alike_empty xs ys e h = (λ none. h.0 (nil_from_length ys (sym e ∙ ap length none)), λ p. nil_from_length xs (e ∙ ap length (h.1 p)))

-- what holds besides
with_fact : {X P Q : Type 0} → Q → X ↔ P → X ↔ (Q × P)
with_fact q h = (λ x. (q, h.0 x), λ p. h.1 p.1)

pub returns : goal.returns
returns c =
    let fs : List Fault = c.in_ok-faults.faults.items in
    let read = ap reads (view-Table c.in-Ok.table) ∙ sym (ap (document_reads (manifest_reads any_tree)) c.in-Ok.ensures.ok) in
    let shallow : is_too_deep c.args.text.now ≡ false = search rules in
    let known : (fs ≡ []) ↔ ((is_too_deep c.args.text.now ≡ false) × IsSome (document_reads (manifest_reads any_tree) (parse_document c.args.text.now))) =
    with_fact shallow (subst (λ (o : Option (ManifestMeaning Data)). (fs ≡ []) ↔ IsSome o) read c.in_ok-faults.ensures.silent) in
    record {
      silent = IfOk-weaker c.placed.result (λ v. length v.items ≡ length c.as_slice.result.now)
          (λ v. (v.items ≡ []) ↔ ((is_too_deep c.args.text.now ≡ false) × IsSome (document_reads (manifest_reads any_tree) (parse_document c.args.text.now))))
          (λ v same. alike_empty v.items fs (same ∙ ap length c.as_slice.ensures.value) known) c.placed.ensures;
    }
