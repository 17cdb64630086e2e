-- What stands behind a beginning of a text, and before an end.
use Rattle.std.proofs.Common.{Bor, List, MatchOption, None, Option, Some, ap, false, length, nat_eq, option_map, subst, sym, take, true, drop, ◌-◌, ◌≡◌, ◌∙◌, ℕ, arith}
use Rattle.std.proofs.lemmas.Str.Pattern.{ends_text, starts_text}
use Rattle.std.specs.List.{ends_with, starts_with}
use Rattle.std.specs.Str.{IsCharBoundary}
use Rattle.std.specs.Str.Pattern.{FindsTextPrefix, FindsTextSuffix, StripsPrefix, StripsSuffix}
use Rattle.cargo_toml_answers.specs.Archived.{after, before}

pub after_is : (p s : List ℕ) (r : Option (Bor (List ℕ))) → MatchOption r (FindsTextPrefix p s None) (λ x. StripsPrefix (FindsTextPrefix p) s x.now) → option_map (λ t. t.now) r ≡ after p s
after_is p s None h =
    let e : false ≡ starts_with nat_eq s p = starts_text false p s h in
    rw (← e)
after_is p s (Some x) h =
    let e : true ≡ starts_with nat_eq s p = starts_text true p s (h.0, h.1, subst (IsCharBoundary s) (sym h.1.0) h.1.2) in
    rw (← e) (ap Some (h.2 ∙ ap (λ k. drop k s) h.1.0))

pub before_is : (p s : List ℕ) (r : Option (Bor (List ℕ))) → MatchOption r (FindsTextSuffix p s None) (λ x. StripsSuffix (FindsTextSuffix p) s x.now) → option_map (λ t. t.now) r ≡ before p s
before_is p s None h =
    let e : false ≡ ends_with nat_eq s p = ends_text false p s h in
    rw (← e)
before_is p s (Some x) h =
    let e : true ≡ ends_with nat_eq s p = ends_text true p s (h.0, h.1, omega (arith, h.3), subst (λ k. IsCharBoundary s (length s - k)) (sym h.1.0) h.1.2) in
    rw (← e) (ap Some (h.2 ∙ ap (λ k. take (length s - k) s) h.1.0))
