use Rattle.std.proofs.Common.{Bor, IfErr, IfOk, List, ap, bytes_eq, inl, inr, map, nat_eq, string_bytes, subst, ◌∙◌, ◌≡◌, ◌⊎◌, ◌≤◌, ◌^◌}
use Rattle.std.proofs.lemmas.Result.{IfOk-weaker, err_from_is_err_and}
use Rattle.std.specs.BTreeSet.{contains_text}
use Rattle.std.specs.List.{list_any, slice_split}
use Rattle.std.specs.Prelude.{IsUtf8}
use Rattle.cargo_toml.specs.{Action.Text, Error.Memory}
use Rattle.cargo_toml_answers.specs.Answered.{IsListed, IsRefusedFor, Reads, is_line}
use Rattle.cargo_toml_answers.specs.Refused.{IsRefusalFor}
use Rattle.cargo_toml_answers.proofs.Answering.{answered_err, answered_ok, argument_weaker, refusal_weaker}
use Rattle.cargo_toml_answers.proofs.listing.features.Goals as goal

pub returns-in_err-text-clause-refused : goal.returns-in_err-text-clause-refused
returns-in_err-text-clause-refused c =
    let p = err_from_is_err_and c.from_residual.result c.from_residual.ensures.1 in
    rw (p.1, p.2) (refusal_weaker _ _ _ _ _ (λ b. absurd b) (λ e why. inl why) c.in_err-text.ensures.refused)

pub returns-in_err-keep-clause-refused : goal.returns-in_err-keep-clause-refused
returns-in_err-keep-clause-refused c =
    let p = err_from_is_err_and c.from_residual-in_err-keep.result c.from_residual-in_err-keep.ensures.1 in
    rw (p.1, p.2) (argument_weaker _ _ (IsRefusedFor c.args.text.now (λ _ e. e ≡ Memory)) _ (λ b. inl b) c.in_err-keep.ensures.refused)

pub returns-clause-listed : goal.returns-clause-listed
returns-clause-listed c =
    let limit = c.args.asked.max_items in
    let lines = c.args.asked.keep.now in
    let kept : (name : Text) → contains_text c.in_ok-kept.kept name ≡ is_line lines name = λ name.
    c.in_ok-kept.ensures name
    ∙ ap (λ ts. list_any (bytes_eq name) ts)
    (ap (λ (ts : List (Bor Text)). map (λ t. t.now) ts) c.as_slice.ensures.value ∙ c.in_ok-lines.ensures ∙ ap (λ (bs : Text). slice_split (λ b. nat_eq b 10) bs) c.in_ok-keep.ensures.same) in
    subst (λ t. IfOk c.answered.result (λ json. Reads t (λ m. IsListed limit (is_line lines) m (string_bytes json)))) c.in_ok-text.ensures.same
    (answered_ok _ _ _ c.answered.ensures
    (IfOk-weaker c.listing_of.result _ (λ json. Reads c.in_ok-text.text.now (λ m. IsListed limit (is_line lines) m (string_bytes json))) (λ json is. is (is_line lines) kept) c.listing_of.ensures.listed))

pub returns-clause-refused : goal.returns-clause-refused
returns-clause-refused c =
    let bad = (¬ IsUtf8 c.args.asked.keep.now) ⊎ ((c.args.asked.max_items ≡ 0) ⊎ (2 ^ 32 ≤ c.args.asked.max_items)) in
    subst (λ t. IfErr c.answered.result (IsRefusalFor bad (IsRefusedFor t (λ _ e. e ≡ Memory)))) c.in_ok-text.ensures.same
    (answered_err _ _ _ _ _ (λ e why. inr why) c.answered.ensures c.listing_of.ensures.refused)
