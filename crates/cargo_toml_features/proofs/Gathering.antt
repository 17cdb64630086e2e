-- Sets of texts.
use Rattle.cargo_toml_features.proofs.Cited.{BTreeSet, Bool, Bor, Err, IfOk, List, Ok, Result, Text, [], ap₂, arith, bytes_eq, common_steps, get_or, is_at, is_eq-slice_cmp}
use Rattle.cargo_toml_features.proofs.Cited.{length, list_any, list_any-append, map, nat_cmp, or-false, refl, set_has, slice_cmp, take, ℕ, ◌+◌, ◌<◌, ◌||◌, ◌∙◌, ◌∷◌, ◌≡◌}
use Rattle.cargo_toml_features.proofs.ByPlace.{taken_more}
use Rattle.std.specs.BTreeSet as sorted

-- ---- sets of texts
-- a key of the list is the text x
abbrev pub is_text_in : List (Bor Text) → Text → Bool
is_text_in ks x = list_any (is_at (λ k. slice_cmp nat_cmp x k.now)) ks

text_in : (ks : List (Bor Text)) (x : Text) → is_text_in ks x ≡ list_any (bytes_eq x) (map (λ k. k.now) ks)
text_in [] x = refl
text_in (k ∷ ks) x = ap₂ (λ a b. a || b) (is_eq-slice_cmp x k.now) (text_in ks x)

-- a set that is made of texts has them
pub texts_made : {E : Type 0} (ks : List (Bor Text)) (r : Result (BTreeSet (Bor Text)) E) → IfOk r (λ s. sorted.IsFromIterResult (λ x y. slice_cmp nat_cmp x.now y.now) ks s)
    → IfOk r (λ s. (x : Text) → set_has s x ≡ list_any (bytes_eq x) (map (λ k. k.now) ks))
texts_made ks (Err e) h = tt
texts_made ks (Ok s) h = λ x. h.0 (record { ref_ptr = (0, 0); now = x }) ∙ text_in ks x

-- what an index past the end reads
abbrev pub no_text : Bor Text
no_text = record { ref_ptr = (0, 0); now = [] }

-- one more text
pub more_texts : (ks : List (Bor Text)) (i : ℕ) (s n : Text → Bool) → i < length ks → ((x : Text) → s x ≡ list_any (bytes_eq x) (map (λ k. k.now) (take i ks)))
    → ((x : Text) → n x ≡ (s x || bytes_eq x (get_or ks i no_text).now)) → (x : Text) → n x ≡ list_any (bytes_eq x) (map (λ k. k.now) (take (i + 1) ks))
more_texts v0 v1 v2 v3 v4 v5 v6 v7 = grind (arith, common_steps, taken_more, list_any-append, or-false)
