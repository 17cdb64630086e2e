use Rattle.cargo_toml_program.proofs.Cited.{AskFor, Command, Complete, Features, IfNone, IsLimit, List, None, Option, Some, [], ap, arith, get_or-map, inl, inr, length, length-map, map, string_bytes, subst, sym, ℕ, ◌∙◌, ◌≡◌}
use lib.ListN.{get_or}
use Rattle.cargo_toml_program.proofs.words.command.Goals as goal

-- of four words that ask for a command the third is a limit
third_is : (words : List (List ℕ)) (c : Command) → length words ≡ 4 → AskFor words c →
    (n : ℕ) × IsLimit (get_or words 2 []) n
third_is words (Features file n) four (inl a) = absurd (omega (arith, four, ap length a.0))
third_is words (Features file n) four (inr a) =
    (n, subst (λ w. IsLimit w n) (sym (ap (λ ws. get_or ws 2 []) a.1)) a.2)
third_is words (Complete file) four a = absurd (omega (arith, four, ap length a))

none_by : {A : Type 0} (o : Option A) (P : Type 0) → P → IfNone o P
none_by None P p = p
none_by (Some x) P p = tt

pub returns-in_err-max_items-in-features-text-clause-none :
    goal.returns-in_err-max_items-in-features-text-clause-none
returns-in_err-max_items-in-features-text-clause-none c =
    let words = c.args.words.now in
    let limit = c.limit-item.result in
    let four : length words ≡ 4 = omega (arith, c.in-len4.len_at_least, c.in-len4.len_below) in
    let third : get_or (map string_bytes words) 2 [] ≡ c.as_str-in-features-text.result.now =
    get_or-map string_bytes words 2 limit [] (omega (arith, four))
    ∙ ap string_bytes (sym c.limit-item.is) ∙ sym c.as_str-in-features-text.ensures.value in
    none_by c.from_residual.result _ (λ k asked.
    let found = third_is (map string_bytes words) k (length-map words string_bytes ∙ four) asked in
    c.in_err-max_items-in-features-text.ensures.none found.0
    (subst (λ w. IsLimit w found.0) third found.1))
