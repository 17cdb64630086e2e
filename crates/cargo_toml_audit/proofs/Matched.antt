-- A row of tests with one more character of the pattern.
use Rattle.cargo_toml_audit.proofs.Cited.{Bool, List, Part, [], accepts, after_any, after_one, and_comm, ap, arith, begins, drop, false, get_or, is_among, is_empty, left_next, length, map, matches, nat_le, ne_eqb, next, or_comm, refl, replicate, reverse, reverse_aux, scan, take, take_rest, true, zip, ℕ, ◌&&◌, ◌+◌, ◌-◌, ◌<◌, ◌||◌, ◌∙◌, ◌∷◌, ◌≡◌, ◌≢◌}

-- a test at the end that was taken, and at those with each further character, as a pattern is matched from its end on
abbrev pub row : (List ℕ → Bool) → List ℕ → List ℕ → List Bool
row test end [] = test end ∷ []
row test end (c ∷ cs) = test end ∷ row test (c ∷ end) cs

shifted : (w : Part) (test : List ℕ → Bool) (end cs : List ℕ) → after_one w test end ∷ map (λ p. p.0 && accepts w p.1) (zip (row test end cs) cs) ≡ row (after_one w test) end cs
shifted w test end [] = refl
shifted w test end (c ∷ cs) =
    ap (λ t. after_one w test end ∷ (t ∷ map (λ p. p.0 && accepts w p.1) (zip (row test (c ∷ end) cs) cs))) (and_comm (test end) (accepts w c))
    ∙ ap (λ t. after_one w test end ∷ t) (shifted w test (c ∷ end) cs)

scanned : (test : List ℕ → Bool) (some : Bool) (end cs : List ℕ) → (some || test end) ≡ after_any test end → scan (λ some here. some || here) (λ some here. some || here) some (row test end cs) ≡ row (after_any test) end cs
scanned test some end [] e = ap (λ t. t ∷ []) e
scanned test some end (c ∷ cs) e =
    ap (λ t. t ∷ scan (λ some here. some || here) (λ some here. some || here) (some || test end) (row test (c ∷ end) cs)) e
    ∙ ap (λ t. after_any test end ∷ t) (scanned test (some || test end) (c ∷ end) cs
    (ap (λ t. t || test (c ∷ end)) e ∙ or_comm (after_any test end) (test (c ∷ end))))

pub next_row : (b : Bool) (w : Part) (test : List ℕ → Bool) (cs : List ℕ) → next b w (row test [] cs) cs ≡ row (begins b w test) [] cs
next_row true w test cs = scanned test false [] cs (or_comm false (test []))
next_row false w test cs = shifted w test [] cs

none_reached : (c : ℕ) (end cs : List ℕ) → false ∷ replicate (length cs) false ≡ row is_empty (c ∷ end) cs
none_reached c end [] = refl
none_reached c end (d ∷ cs) = ap (λ t. false ∷ t) (none_reached d (c ∷ end) cs)

pub first_row : (cs : List ℕ) → true ∷ replicate (length cs) false ≡ row (matches []) [] cs
first_row [] = refl
first_row (c ∷ cs) = ap (λ t. true ∷ t) (none_reached c [] cs)

last_of : (test : List ℕ → Bool) (end cs : List ℕ) → get_or (row test end cs) (length cs) false ≡ test (reverse_aux cs end)
last_of test end [] = refl
last_of test end (c ∷ cs) = last_of test (c ∷ end) cs

pub last_row : (test : List ℕ → Bool) (cs : List ℕ) → get_or (row test [] cs) (length cs) false ≡ test (reverse cs)
last_row test cs = last_of test [] cs

-- one more part of a pattern, from its end on
pub back_next : {A B : Type 0} (f : A → B) (xs : List A) (i k : ℕ) (x : A) → i < length xs → k ≡ length xs - 1 - i → x ≡ get_or xs k x
    → map f (drop (length xs - (i + 1)) xs) ≡ f x ∷ map f (drop (length xs - i) xs)
back_next f xs i k x within is at =
    let here : length xs - (i + 1) ≡ k = omega arith in
    let behind : k + 1 ≡ length xs - i = omega arith in
    let inside : k < length xs = omega arith in
    ap (λ n. map f (drop n xs)) here ∙ left_next f xs k x inside at ∙ ap (λ n. f x ∷ map f (drop n xs)) behind

-- what stands in brackets, behind a range or a character that comes first
pub among_range : (xs : List ℕ) (c x z : ℕ) → 2 < length xs → get_or xs 1 0 ≡ 45 → x ≡ get_or xs 0 x → z ≡ get_or xs 2 z → (nat_le x c && nat_le c z) ≡ false
    → is_among (take (length xs - 3) (drop 3 xs)) c ≡ is_among xs c
among_range (a ∷ b ∷ e ∷ rest) c x z long range first last out = let rest = take_rest (a ∷ b ∷ e ∷ rest) 3 in grind (arith, rest)
among_range xs c x z long range first last out = absurd (omega arith)

pub among_one : (xs : List ℕ) (c x : ℕ) → 0 < length xs → (2 < length xs → get_or xs 1 0 ≢ 45) → x ≡ get_or xs 0 x → x ≢ c → is_among (take (length xs - 1) (drop 1 xs)) c ≡ is_among xs c
among_one [] c x some single first other = absurd (omega arith)
among_one (a ∷ b ∷ e ∷ rest) c x some single first other = let no = ne_eqb x c other in let rest = take_rest (a ∷ b ∷ e ∷ rest) 1 in let this = single (omega arith) in grind arith
among_one xs c x some single first other = let no = ne_eqb x c other in grind arith
