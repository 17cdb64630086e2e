-- Numbers of 64 bits, as `parse` reads them.
use Rattle.std.proofs.Common.{◌&&◌, ◌∙◌, ◌≡◌, ◌<◌, ◌^◌, ℕ, ap, arith, Bool, false, length, List, nat_lt, rules, sym, true}
use Rattle.std.proofs.lemmas.Bool.Decides.{nat_tests}
use Rattle.std.proofs.lemmas.Str.Parse.{IsNumeralModel, numerals_by_value, parse_digits}
use Rattle.std.specs.Prelude.{Err, is_ok, Ok, Result}
use Rattle.std.specs.{Char.is_ascii_digit, List.list_all, Result.OkIff}
use Rattle.std.specs.Str.Parse.{digits_value, ParsesUnsigned}
use Rattle.cargo_toml_tools.specs.Indexed.{is_u64}

own : IsNumeralModel (λ ds. list_all is_ascii_digit ds ≡ true) (digits_value 10)
own = numerals_by_value _ (search rules)

fits : (n v : ℕ) → (0 < n) × (v < 2 ^ 64) → true ≡ (nat_lt 0 n && nat_lt v (2 ^ 64))
fits n v h = grind (arith, nat_tests)

is_over : (n v : ℕ) → ¬ ((0 < n) × (v < 2 ^ 64)) → false ≡ (nat_lt 0 n && nat_lt v (2 ^ 64))
is_over n v h = grind (arith, nat_tests)

decided : {E : Type 0} (r : Result ℕ E) (n v : ℕ) → OkIff r ((0 < n) × (v < 2 ^ 64)) v → is_ok r ≡ (nat_lt 0 n && nat_lt v (2 ^ 64))
decided (Ok x) n v h = fits n v h.0
decided (Err e) n v h = is_over n v h

pub parsed : {E : Type 0} (ds : List ℕ) (r : Result ℕ E) → ParsesUnsigned 64 10 ds r → list_all is_ascii_digit ds ≡ true → is_ok r ≡ is_u64 ds
parsed ds r h digits =
    decided r (length ds) (digits_value 10 ds) (parse_digits own 64 ds r h digits)
    ∙ sym (ap (λ b. b && (nat_lt 0 (length ds) && nat_lt (digits_value 10 ds) (2 ^ 64))) digits)
