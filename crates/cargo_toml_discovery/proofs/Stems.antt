-- How often `.rs` is stripped.
use Rattle.cargo_toml_discovery.proofs.Cited.{CutsSuffixes, FindsTextSuffix, IsFullyTrimmed, IsTrimEndMatches, List, Name, None, Option, Some, [], ap, append_cancel_left, arith, bytes_eq-Decides, codes, cond, drop, false, is_source, length, length-take, refl, stem, stripped, suc, sym, take, take-append-drop, true, with_endings, without_ending, zero, ℕ, ◌++◌, ◌-◌, ◌<◌, ◌∙◌, ◌∷◌, ◌≡◌, ◌≤◌}

stripped-nil : (n : ℕ) → stripped n [] ≡ []
stripped-nil zero = refl
stripped-nil (suc n) = refl

without_ending-length : (t : Name) → length (without_ending t) ≤ length t - 3
without_ending-length t = omega (arith, length-take (length t - 3) t)

stripped-enough : (n m : ℕ) (t : Name) → length t ≤ n → length t ≤ m → stripped n t ≡ stripped m t
stripped-enough zero m [] h k = sym (stripped-nil m)
stripped-enough zero m (x ∷ t) h k = absurd (omega arith)
stripped-enough (suc n) zero [] h k = refl
stripped-enough (suc n) zero (x ∷ t) h k = absurd (omega arith)
stripped-enough (suc n) (suc m) t h k =
    let s = without_ending-length t in
    ap (λ (u : Name). cond (is_source t) u t) (stripped-enough n m (without_ending t) (omega arith) (omega arith))

source-shorter : (t : Name) → is_source t ≡ true → length (without_ending t) < length t
source-shorter [] h = cc
source-shorter (x ∷ t) h = let s = without_ending-length (x ∷ t) in omega arith

stem-shorter : (t : Name) → is_source t ≡ true → stem (without_ending t) ≡ stem t
stem-shorter [] h = refl
stem-shorter (x ∷ t) h =
    let s = without_ending-length (x ∷ t) in
    rw h (stripped-enough (length (without_ending (x ∷ t))) (length t) (without_ending (x ∷ t)) (omega arith) (omega arith))

stem-done : (t : Name) → is_source t ≡ false → stem t ≡ t
stem-done [] h = refl
stem-done (x ∷ t) h = rw h refl

-- nothing is left to take away
pub stripped-done : (n : ℕ) (t : Name) → length t ≤ n → is_source (stripped n t) ≡ false
stripped-done zero [] h = refl
stripped-done zero (x ∷ t) h = absurd (omega arith)
stripped-done (suc n) t h = elim (is_source t) as (λ b. is_source t ≡ b → is_source (cond b (stripped n (without_ending t)) t) ≡ false)
    [ true ↦ λ e. let s = source-shorter t e in stripped-done n (without_ending t) (omega arith) | false ↦ λ e. e ] refl

put-back : (t : Name) → is_source t ≡ true → without_ending t ++ codes ".rs" ≡ t
put-back t e = ap (λ (u : Name). without_ending t ++ u) ((bytes_eq-Decides (codes ".rs") (drop (length t - 3) t)).0 e) ∙ take-append-drop (length t - 3) t

-- what was taken away stands there again
pub rebuilt : (k : ℕ) (t : Name) → (n : ℕ) × (with_endings n (stripped k t) ≡ t)
rebuilt zero t = (zero, refl)
rebuilt (suc k) t = elim (is_source t) as (λ b. is_source t ≡ b → (n : ℕ) × (with_endings n (cond b (stripped k (without_ending t)) t) ≡ t))
    [ true ↦ λ e. let r = rebuilt k (without_ending t) in (suc r.0, ap (λ (u : Name). u ++ codes ".rs") r.1 ∙ put-back t e) | false ↦ λ e. (zero, refl) ] refl

-- what is trimmed of `.rs`
ended : (t : Name) → t ≡ take (length t - 3) t ++ codes ".rs" → is_source t ≡ true
ended t h = (bytes_eq-Decides (codes ".rs") (drop (length t - 3) t)).1 (append_cancel_left (take (length t - 3) t) _ _ (sym h ∙ sym (take-append-drop (length t - 3) t)))

abbrev Ends : Name → Option ℕ → Type 0
Ends t n = FindsTextSuffix (codes ".rs") t n

cut : (t : Name) (ns : List ℕ) (r : Name) → CutsSuffixes Ends t ns r → stem r ≡ stem t
cut t [] r h = ap stem h
cut t (n ∷ ns) r (m, before, (size, ends, at), is) =
    let here : m ≡ take (length m - 3) m ++ codes ".rs" = rw size at ends in
    ap stem (rw size at is) ∙ stem-shorter m (ended m here) ∙ cut t ns m before

none_left : (r : Name) → IsFullyTrimmed Ends r → is_source r ≡ false
none_left r (None, none, _) = elim (is_source r) as (λ b. is_source r ≡ b → b ≡ false)
    [ true ↦ λ e. absurd (none (without_ending r) (sym (put-back r e))) | false ↦ λ e. refl ] refl
none_left r (Some n, found, none) = let three : n ≡ 3 = found.0 in let zero : n ≡ 0 = none in absurd (omega arith)

pub trimmed : (t r : Name) → IsTrimEndMatches Ends t r → r ≡ stem t
trimmed t r (cuts, full) = sym (stem-done r (none_left r full)) ∙ cut t cuts.0 r cuts.1
