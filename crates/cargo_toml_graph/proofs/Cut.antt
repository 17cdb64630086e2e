-- A table in the byte order of its names, cut to a limit.
use Rattle.std.proofs.Common.{◌≡◌, ◌⊎◌, ◌+◌, ◌≤◌, ℕ, Bool, true, false, cond, ◌||◌, List, [], ◌∷◌, ◌++◌, map, filter, fold, take, length, length-append, nat_lt, codes, bytes_eq, count_by, append_assoc, arith, IsTrue, refl, sym, ap, inl, inr, rules}
use Rattle.std.proofs.lemmas.{Bool.false≢true, Bool.false_from_ne_true, Bool.le-ltb, Bool.ltb-false, List.append-nil, List.Sums.sum_by-cons, Grind.common_steps}
use Rattle.std.proofs.Math.Bool.{or_comm}
use Rattle.cargo_toml_graph.specs.{Action.Text, Admitted.Listed, Admitted.is_below, Admitted.is_admitted, Admitted.admitted, Reach.Among, Ascending.Ascend}
use Rattle.cargo_toml_graph.proofs.{RedirectsInOrder.below_one_way, SortedTexts.first_below, SortedTexts.none_ascend, SortedTexts.others_ascend, SortedTexts.put_first}

-- a name counts while there is room, and `default` always
abbrev pub is_counted : ℕ → Listed → Text → Bool
is_counted limit taken n = nat_lt (length taken) limit || bytes_eq n (codes "default")

abbrev pub first_of : ℕ → Text × List Text → Text × List Text
first_of limit e = (e.0, take limit e.1)

abbrev pub take_one : ℕ → Listed → Text × List Text → Listed
take_one limit taken e = cond (is_counted limit taken e.0) (taken ++ first_of limit e ∷ []) taken

-- one name after another
abbrev pub cut : ℕ → Listed → Listed → Listed
cut limit taken listed = fold (take_one limit) taken listed

abbrev names_of : Listed → List Text
names_of es = map (λ e. e.0) es

abbrev Below : Text → Text → Type 0
Below a b = IsTrue (is_below a b)

abbrev pub Ascends : Listed → Type 0
Ascends listed = Ascend (names_of listed)

abbrev one : Bool → ℕ
one b = cond b 1 0

counted : (n : Text) (e : Text × List Text) (es : Listed) → count_by (λ d. is_below d.0 n) (e ∷ es) ≡ one (is_below e.0 n) + count_by (λ d. is_below d.0 n) es
counted n e es = sum_by-cons (λ (d : Text × List Text). cond (is_below d.0 n) 1 0) e es

not_below : (a b : Text) → Below b a → is_below a b ≡ false
not_below a b h = false_from_ne_true _ (λ i. below_one_way a b i h)

not_itself : (a : Text) → is_below a a ≡ false
not_itself a = false_from_ne_true _ (λ i. below_one_way a a i i)

-- no name is below n, where n is below each
none_below : (n : Text) (es : Listed) → ((y : Text) → Among (names_of es) y → Below n y) → count_by (λ d. is_below d.0 n) es ≡ 0
none_below n [] h = refl
none_below n (e ∷ es) h = search (rules, not_below, counted, none_below n es)

among_here : (ys : Listed) (e : Text × List Text) (es : Listed) → Among (names_of (ys ++ e ∷ es)) e.0
among_here [] e es = inl refl
among_here (y ∷ ys) e es = inr (among_here ys e es)

-- as many names are below one as stand before it
place : (ys : Listed) (e : Text × List Text) (es : Listed) → Ascends (ys ++ e ∷ es) → count_by (λ d. is_below d.0 e.0) (ys ++ e ∷ es) ≡ length ys
place [] e es a =
    let off : one (is_below e.0 e.0) ≡ 0 = ap one (not_itself e.0) in
    let rest : count_by (λ d. is_below d.0 e.0) es ≡ 0 = none_below e.0 es (first_below e.0 (names_of es) a) in
    let first : count_by (λ d. is_below d.0 e.0) (e ∷ es) ≡ one (is_below e.0 e.0) + count_by (λ d. is_below d.0 e.0) es = counted e.0 e es in
    omega (arith, first, off, rest)
place (y ∷ ys) e es a = grind (arith, common_steps, not_itself, none_below, first_below, counted, among_here, others_ascend, place ys e es)

-- there is room among those that are taken as long as there is among those that were looked at
abbrev Room : ℕ → Listed → Listed → Type 0
Room limit taken ys = (length taken ≡ length ys) ⊎ ((limit ≤ length taken) × (limit ≤ length ys))

same_room : (limit : ℕ) (taken ys : Listed) → Room limit taken ys → nat_lt (length taken) limit ≡ nat_lt (length ys) limit
same_room v0 v1 v2 v3 = grind (arith, le-ltb)

one_longer : (xs : Listed) (x : Text × List Text) → length (xs ++ x ∷ []) ≡ length xs + 1
one_longer xs x = length-append xs (x ∷ [])

room_taken : (limit : ℕ) (taken ys : Listed) (x y : Text × List Text) → Room limit taken ys → Room limit (taken ++ x ∷ []) (ys ++ y ∷ [])
room_taken v0 v1 v2 v3 v4 v5 = grind (arith, one_longer)

room_left : (limit : ℕ) (taken ys : Listed) (y : Text × List Text) → limit ≤ length taken → Room limit taken ys → Room limit taken (ys ++ y ∷ [])
room_left v0 v1 v2 v3 v4 v5 = grind (arith, one_longer)

module _ (limit : ℕ) (all : Listed) (ascends : Ascends all) where
  abbrev kept : Listed → Listed
  kept es = map (first_of limit) (filter (λ e. is_admitted limit all e.0) es)

  same_test : (ys : Listed) (e : Text × List Text) (es taken : Listed) → ys ++ e ∷ es ≡ all → Room limit taken ys → is_admitted limit all e.0 ≡ is_counted limit taken e.0
  same_test ys e es taken is r = search (rules, place, or_comm, same_room)

  cut_from : (ys es taken : Listed) → ys ++ es ≡ all → Room limit taken ys → cut limit taken es ≡ taken ++ kept es
  cut_from ys [] taken is r = sym (append-nil taken)
  cut_from ys (e ∷ es) taken is r = grind (arith, common_steps, append-nil, append_assoc, false≢true, room_taken, same_test, room_left, ltb-false, cut_from (ys ++ e ∷ []) es)

  -- what is taken one after another is what is admitted
  pub cut_is_admitted : cut limit [] all ≡ admitted limit all
  cut_is_admitted = cut_from [] all [] refl (inl refl)

-- a name that is admitted is listed
kept_among : (limit : ℕ) (p : Text × List Text → Bool) (es : Listed) (n : Text) → Among (names_of (map (first_of limit) (filter p es))) n → Among (names_of es) n
kept_among limit p [] n i = i
kept_among limit p (e ∷ es) n i = search (rules, kept_among limit p es n)

-- what is admitted ascends too
kept_ascends : (limit : ℕ) (p : Text × List Text → Bool) (es : Listed) → Ascends es → Ascends (map (first_of limit) (filter p es))
kept_ascends limit p [] a = none_ascend
kept_ascends limit p (e ∷ es) a = go (kept_ascends limit p es (others_ascend e.0 (names_of es) a)) (p e)
  where
    go : Ascends (map (first_of limit) (filter p es)) → (b : Bool) → Ascends (map (first_of limit) (cond b (e ∷ filter p es) (filter p es)))
    go later true = put_first e.0 (names_of (map (first_of limit) (filter p es))) (λ y i. first_below e.0 (names_of es) a y (kept_among limit p es y i)) later
    go later false = later

pub admitted_ascends : (limit : ℕ) (listed : Listed) → Ascends listed → Ascends (admitted limit listed)
admitted_ascends limit listed a = kept_ascends limit (λ e. is_admitted limit listed e.0) listed a
