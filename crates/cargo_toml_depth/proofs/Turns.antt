-- The turns of the walk over a text.
use Rattle.std.proofs.Common.{◌≡◌, ◌&&◌, ℕ, zero, suc, ◌+◌, ◌-◌, ◌<◌, Bool, true, false, ◌==◌, List, [], ◌∷◌, length, length-drop, drop, slice_index, Some, None, refl, sym, ◌∙◌, ap, inl, inr, get_or-drop, add-zero, arith}
use Rattle.std.proofs.lemmas.Bool.{cases_Bool}
use Rattle.std.proofs.lemmas.Bool.Decides.{nat_tests}
use Rattle.std.proofs.lemmas.Grind.{common_steps}
use Rattle.std.proofs.lemmas.List.{drop-drop}
use Rattle.std.specs.List.{prefix_len}
use Rattle.toml_parser.specs.Lexical.{first, skip_blank}
use Rattle.toml_parser.specs.Strings.{one_line, quoted, special, starts_string}
use Rattle.toml_parser.specs.Strings as strings
use Rattle.toml_parser.proofs.StringsLemmas.{body_run}
use Rattle.cargo_toml_depth.specs.Nesting.{Place, after_string, end_line, enter, gets_too_deep, header, is_at_header, is_beyond, pass}
use Rattle.cargo_toml_depth.specs.Places.{is_plain}

pub at_end : (p : Place) (text : List ℕ) → gets_too_deep 0 p text ≡ false
unfolding gets_too_deep
at_end p text = refl

pub no_string : (n : ℕ) (p : Place) (text : List ℕ) → starts_string text ≡ true → after_string text ≡ None → gets_too_deep n p text ≡ false
unfolding gets_too_deep
no_string zero p text begins ends = refl
no_string (suc m) p text begins ends = rw (begins, ends) refl

pub past_string : (n : ℕ) (p : Place) (text rest : List ℕ) → 0 < n → starts_string text ≡ true → after_string text ≡ Some rest
    → gets_too_deep n p text ≡ gets_too_deep (n - 1) p rest
unfolding gets_too_deep
past_string zero p text rest some begins ends = absurd (omega arith)
past_string (suc m) p text rest some begins ends = let less : suc m - 1 ≡ m = omega arith in rw (begins, ends, less) refl

pub past_comment : (n : ℕ) (p : Place) (text : List ℕ) → 0 < n → starts_string text ≡ false → (first text == 35) ≡ true
    → gets_too_deep n p text ≡ gets_too_deep (n - 1) (end_line p) (skip_blank text)
unfolding gets_too_deep
past_comment zero p text some other begins = absurd (omega arith)
past_comment (suc m) p text some other begins = let less : suc m - 1 ≡ m = omega arith in rw (other, begins, less) refl

-- neither a string nor a comment begins here, and whether a header does
pub record IsNear (p : Place) (text : List ℕ) (here : Bool) : Type 0 where
  pub other : starts_string text ≡ false
  pub plain : (first text == 35) ≡ false
  pub at : is_at_header p (first text) ≡ here

pub no_header : (n : ℕ) (p : Place) (text : List ℕ) → IsNear p text true → header text ≡ None → gets_too_deep n p text ≡ false
unfolding gets_too_deep
no_header zero p text near none = refl
no_header (suc m) p text near none = rw (near.other, near.plain, near.at, none) refl

pub deep_header : (n : ℕ) (p : Place) (text : List ℕ) (parts : ℕ) (is_of_array : Bool) (rest : List ℕ) → 0 < n → IsNear p text true
    → header text ≡ Some (parts, is_of_array, rest) → enter parts is_of_array p ≡ None → gets_too_deep n p text ≡ true
unfolding gets_too_deep
deep_header zero p text parts is_of_array rest some near read deep = absurd (omega arith)
deep_header (suc m) p text parts is_of_array rest some near read deep = rw (near.other, near.plain, near.at, read, deep) refl

pub past_header : (n : ℕ) (p q : Place) (text : List ℕ) (parts : ℕ) (is_of_array : Bool) (rest : List ℕ) → 0 < n → IsNear p text true
    → header text ≡ Some (parts, is_of_array, rest) → enter parts is_of_array p ≡ Some q → gets_too_deep n p text ≡ gets_too_deep (n - 1) q rest
unfolding gets_too_deep
past_header zero p q text parts is_of_array rest some near read fits = absurd (omega arith)
past_header (suc m) p q text parts is_of_array rest some near read fits =
    let less : suc m - 1 ≡ m = omega arith in rw (near.other, near.plain, near.at, read, fits, less) refl

pub stops : (n : ℕ) (p : Place) (text : List ℕ) → IsNear p text false → is_beyond (first text) ≡ true → gets_too_deep n p text ≡ false
unfolding gets_too_deep
stops zero p text near ends = refl
stops (suc m) p text near ends = rw (near.other, near.plain, near.at, ends) refl

pub deep_byte : (n : ℕ) (p : Place) (text : List ℕ) → 0 < n → IsNear p text false → is_beyond (first text) ≡ false
    → pass (first text) p ≡ None → gets_too_deep n p text ≡ true
unfolding gets_too_deep
deep_byte zero p text some near goes deep = absurd (omega arith)
deep_byte (suc m) p text some near goes deep = rw (near.other, near.plain, near.at, goes, deep) refl

pub past_byte : (n : ℕ) (p q : Place) (text : List ℕ) → 0 < n → IsNear p text false → is_beyond (first text) ≡ false
    → pass (first text) p ≡ Some q → gets_too_deep n p text ≡ gets_too_deep (n - 1) q (drop 1 text)
unfolding gets_too_deep
past_byte zero p q text some near goes fits = absurd (omega arith)
past_byte (suc m) p q text some near goes fits = let less : suc m - 1 ≡ m = omega arith in rw (near.other, near.plain, near.at, goes, fits, less) refl

-- a byte that changes nothing is passed
past_plain_byte : (n : ℕ) (p : Place) (c : ℕ) (cs : List ℕ) → is_plain c ≡ true → gets_too_deep (suc n) p (c ∷ cs) ≡ gets_too_deep n p cs
past_plain_byte n p c cs plain =
    let near : IsNear p (c ∷ cs) false = record { other = grind (arith, nat_tests, common_steps); plain = grind (arith, nat_tests, common_steps); at = grind (arith, nat_tests, common_steps) } in
    let goes : is_beyond (first (c ∷ cs)) ≡ false = grind (arith, nat_tests, common_steps) in
    let same : pass (first (c ∷ cs)) p ≡ Some p = grind (arith, nat_tests, common_steps) in
    let less : suc n - 1 ≡ n = omega arith in
    rw less at (past_byte (suc n) p p (c ∷ cs) (omega arith) near goes same)

-- and so is a run of them
pub past_plain : (n : ℕ) (p : Place) (text : List ℕ)
    → gets_too_deep n p text ≡ gets_too_deep (n - prefix_len is_plain text) p (drop (prefix_len is_plain text) text)
past_plain n p [] = let whole : n - 0 ≡ n = omega arith in rw whole refl
past_plain zero p (c ∷ cs) =
    let none : 0 - prefix_len is_plain (c ∷ cs) ≡ 0 = omega arith in
    rw none (at_end p (c ∷ cs) ∙ sym (at_end p (drop (prefix_len is_plain (c ∷ cs)) (c ∷ cs))))
past_plain (suc m) p (c ∷ cs) = elim (cases_Bool (is_plain c)) [
  | inl plain ↦
      let k = prefix_len is_plain cs in
      let next : 1 + k ≡ suc k = omega arith in
      let less : suc m - suc k ≡ m - k = omega arith in
      rw (plain, next, less) (past_plain_byte m p c cs plain ∙ past_plain m p cs)
  | inr other ↦ let whole : suc m - 0 ≡ suc m = omega arith in rw (other, whole) refl
]

-- what follows a string of one line whose bytes all stand for themselves
pub past_literal : (text : List ℕ) → 0 < length text → (slice_index text 1 == first text && slice_index text 2 == first text) ≡ false
    → (first (drop (prefix_len (strings.is_plain (first text) false) (drop 1 text)) (drop 1 text)) == first text) ≡ true
    → after_string text ≡ Some (drop 1 (drop (prefix_len (strings.is_plain (first text) false) (drop 1 text)) (drop 1 text)))
unfolding quoted one_line special
past_literal text some single ends =
    let room : length (drop 1 text) < length text = simp length-drop (omega arith) in
    let (m, fits, run) = body_run (first text) false (drop 1 text) (length text) room in
    rw (single, run, ends) refl

-- the same by the parts that the code has
pub past_literal_at : (text inner rest : List ℕ) (count : ℕ) → 0 < length text
    → (slice_index text 1 == first text && slice_index text 2 == first text) ≡ false → inner ≡ drop 1 text
    → count ≡ prefix_len (strings.is_plain (first text) false) inner → (slice_index inner count == first text) ≡ true → rest ≡ drop (count + 1) inner
    → after_string text ≡ Some rest
past_literal_at text inner rest count some single is_inner is_count ends is_rest =
    let n = prefix_len (strings.is_plain (first text) false) (drop 1 text) in
    let at : (slice_index (drop 1 text) n == first text) ≡ true = rw (← is_inner, ← is_count) ends in
    let ended : (first (drop n (drop 1 text)) == first text) ≡ true = rw (get_or-drop n (drop 1 text) 0 0, add-zero) at in
    rw (is_rest, is_count, is_inner) (past_literal text some single ended ∙ ap Some (drop-drop 1 n (drop 1 text)))
