-- Lists of binaries.
use Rattle.std.proofs.Common.{◌≡◌, ◌≢◌, ◌⊎◌, ◌≤◌, ◌+◌, ℕ, zero, suc, Bool, true, false, cond, List, [], ◌∷◌, ◌++◌, take, length, bytes_eq, refl, sym, ap, subst, inl, inr, ◌∙◌, arith, append_assoc, length-append, rules}
use Rattle.std.proofs.lemmas.{Bool.false≢true, Bool.or_cases, Bool.or_left, Bool.or_right, Slice.Eq.bytes_eq-Decides}
use Rattle.cargo_toml_graph.specs.{Action.Text, Reach.Among, Reach.IsOnce, Removal.lists_text, Removal.put_each, Bins.mentions, Bins.Grown}

pub is_among-true : (xs : List Text) (x : Text) → lists_text xs x ≡ true → Among xs x
is_among-true [] x e = absurd (false≢true e)
is_among-true (y ∷ ys) x e = elim (or_cases (bytes_eq x y) (lists_text ys x) e) [ inl i ↦ inl ((bytes_eq-Decides x y).0 i) | inr i ↦ inr (is_among-true ys x i) ]

pub among-true : (xs : List Text) (x : Text) → Among xs x → lists_text xs x ≡ true
among-true [] x e = absurd e
among-true (y ∷ ys) x (inl i) = or_left (bytes_eq x y) _ ((bytes_eq-Decides x y).1 i)
among-true (y ∷ ys) x (inr i) = or_right (bytes_eq x y) _ (among-true ys x i)

pub among-first : {K : Type 0} (xs ys : List K) (x : K) → Among xs x → Among (xs ++ ys) x
among-first [] ys x i = absurd i
among-first (z ∷ xs) ys x (inl i) = inl i
among-first (z ∷ xs) ys x (inr i) = inr (among-first xs ys x i)

pub among-second : {K : Type 0} (xs ys : List K) (x : K) → Among ys x → Among (xs ++ ys) x
among-second [] ys x i = i
among-second (z ∷ xs) ys x i = inr (among-second xs ys x i)

pub among-either : {K : Type 0} (xs ys : List K) (x : K) → Among (xs ++ ys) x → Among xs x ⊎ Among ys x
among-either [] ys x i = inr i
among-either (z ∷ xs) ys x (inl i) = inl (inl i)
among-either (z ∷ xs) ys x (inr i) = elim (among-either xs ys x i) [ inl j ↦ inl (inr j) | inr j ↦ inr j ]

pub among-take : {K : Type 0} (n : ℕ) (xs ys : List K) (x : K) → Among (take n xs) x → Among (take n (xs ++ ys)) x
among-take zero xs ys x i = absurd i
among-take (suc n) [] ys x i = absurd i
among-take (suc n) (z ∷ xs) ys x (inl i) = inl i
among-take (suc n) (z ∷ xs) ys x (inr i) = inr (among-take n xs ys x i)

pub among-taken : {K : Type 0} (n : ℕ) (xs : List K) (x : K) → Among (take n xs) x → Among xs x
among-taken zero xs x i = absurd i
among-taken (suc n) [] x i = absurd i
among-taken (suc n) (z ∷ xs) x (inl i) = inl i
among-taken (suc n) (z ∷ xs) x (inr i) = inr (among-taken n xs x i)

pub once-push : {K : Type 0} (xs : List K) (y : K) → IsOnce xs → ¬ Among xs y → IsOnce (xs ++ y ∷ [])
once-push [] y o n = ((λ i. i), tt)
once-push (x ∷ xs) y o n = search (rules, among-either, once-push xs y o.1)

-- what is put is there, and what was there stays
pub put_keeps : (xs ys : List Text) (x : Text) → Among xs x → Among (put_each xs ys) x
put_keeps xs [] x i = i
put_keeps xs (y ∷ ys) x i = put_keeps (cond (lists_text xs y) xs (xs ++ y ∷ [])) ys x (go (lists_text xs y))
  where
    go : (b : Bool) → Among (cond b xs (xs ++ y ∷ [])) x
    go true = i
    go false = among-first xs (y ∷ []) x i

pub put_puts : (xs ys : List Text) (x : Text) → Among ys x → Among (put_each xs ys) x
put_puts xs [] x i = absurd i
put_puts xs (y ∷ ys) x (inr i) = put_puts (cond (lists_text xs y) xs (xs ++ y ∷ [])) ys x i
put_puts xs (y ∷ ys) x (inl e) = search (rules, put_keeps, is_among-true, among-second)

pub put_grows : (own : List Text) (P : Text → Type 0) (xs ys : List Text) → Grown own P xs → ((y : Text) → Among ys y → P y) → Grown own P (put_each xs ys)
put_grows own P xs [] g p = g
put_grows own P xs (y ∷ ys) g p = put_grows own P (cond (lists_text xs y) xs (xs ++ y ∷ [])) ys (go (lists_text xs y) refl) (λ z i. p z (inr i))
  where
    go : (b : Bool) → lists_text xs y ≡ b → Grown own P (cond b xs (xs ++ y ∷ []))
    go true t = g
    go false t =
        let absent : (i : Among (own ++ g.passed) y) → ⊥ = λ i. false≢true (sym t ∙ among-true xs y (subst (λ zs. Among zs y) (sym g.whole) i)) in
        record {
          passed = g.passed ++ y ∷ [];
          whole = ap (λ zs. zs ++ y ∷ []) g.whole ∙ append_assoc own g.passed (y ∷ []);
          once = once-push g.passed y g.once (λ i. absent (among-second own g.passed y i));
          fresh = λ x i. elim (among-either g.passed (y ∷ []) x i) [ inl i ↦ g.fresh x i | inr i ↦ elim i [ inl e ↦ λ o. absent (among-first own g.passed y (subst (Among own) e o)) | inr i ↦ absurd i ] ];
          cause = λ x i. elim (among-either g.passed (y ∷ []) x i) [ inl i ↦ g.cause x i | inr i ↦ elim i [ inl e ↦ subst P (sym e) (p y (inl refl)) | inr i ↦ absurd i ] ];
        }

-- ---- counting

-- ys without one of its x
pub record Apart (x : Text) (ys : List Text) : Type 0 where
  rest : List Text
  shorter : length ys ≡ suc (length rest)
  others : (z : Text) → z ≢ x → Among ys z → Among rest z

apart : (x : Text) (ys : List Text) → Among ys x → Apart x ys
apart x [] i = absurd i
apart x (y ∷ ys) (inl e) = record { rest = ys; shorter = refl; others = λ z n. elim [ inl i ↦ absurd (n (i ∙ sym e)) | inr i ↦ i ] }
apart x (y ∷ ys) (inr i) =
    let a : Apart x ys = apart x ys i in
    record { rest = y ∷ a.rest; shorter = ap suc a.shorter; others = λ z n. elim [ inl i ↦ inl i | inr i ↦ inr (a.others z n i) ] }

pub length-le_from_among : (xs ys : List Text) → IsOnce xs → ((x : Text) → Among xs x → Among ys x) → length xs ≤ length ys
length-le_from_among [] ys o sub = omega arith
length-le_from_among (x ∷ xs) ys o sub =
    let a : Apart x ys = apart x ys (sub x (inl refl)) in
    let below : length xs ≤ length a.rest = length-le_from_among xs a.rest o.1 (λ z i. a.others z (λ e. o.0 (subst (Among xs) e i)) (sub z (inr i))) in
    let long : length ys ≡ suc (length a.rest) = a.shorter in
    omega (arith, below, long)

-- what the features of a list but r own
others_own : (Text → List Text) → Text → List Text → List Text
others_own own r [] = []
others_own own r (s ∷ rs) = cond (bytes_eq s r) (others_own own r rs) (own s ++ others_own own r rs)

others_hold : (own : Text → List Text) (r : Text) (rs : List Text) (s x : Text) → s ≢ r → Among rs s → Among (own s) x → Among (others_own own r rs) x
unfolding others_own
others_hold own r [] s x n i j = absurd i
others_hold own r (q ∷ rs) s x n (inl e) j = search (rules, others_own, bytes_eq-Decides, among-first, among-second)
others_hold own r (q ∷ rs) s x n (inr i) j = search (rules, others_own, bytes_eq-Decides, among-first, among-second, others_hold own r rs s x n i j)

others_below : (own : Text → List Text) (r : Text) (rs : List Text) → length (others_own own r rs) ≤ mentions own rs
unfolding others_own
others_below own r [] = omega arith
others_below own r (q ∷ rs) = search (rules, others_own, length-append, others_below own r rs)

own_and_others : (own : Text → List Text) (r : Text) (rs : List Text) → Among rs r → length (own r) + length (others_own own r rs) ≤ mentions own rs
unfolding others_own
own_and_others own r [] i = absurd i
own_and_others own r (q ∷ rs) i = search (rules, others_own, bytes_eq-Decides, others_below, false≢true, length-append, own_and_others own r rs)

-- with few mentions, a removed feature never has more binaries than there are mentions
pub few : (own : Text → List Text) (r : Text) (rs : List Text) (bins : List Text) → Among rs r → Grown (own r) (λ x. (s : Text) × Among rs s × Among (own s) x) bins → length bins ≤ mentions own rs
few own r rs bins i g =
    let all : length g.passed ≤ length (others_own own r rs) = length-le_from_among g.passed (others_own own r rs) g.once (λ x j.
    let c = g.cause x j in others_hold own r rs c.0 x (λ e. g.fresh x j (subst (λ v. Among (own v) x) e c.2)) c.1 c.2) in
    let long : length bins ≡ length (own r) + length g.passed = ap length g.whole ∙ length-append (own r) g.passed in
    omega (arith, all, own_and_others own r rs i, long)
