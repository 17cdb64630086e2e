-- Rows in ascending order: a path through the removed vertices below r is cut at the first vertex that is not below the one that it left.
use Rattle.cargo_toml_resolve.proofs.Cited.{Among, Bool, FindsRedirects, Gathers, GathersLabel, HasLabel, IsPassed, IsRedirect, IsWanted, Leads, List, Moves, Reaches, Replaces, [], ap, arith, cases_Bool, cases_eq, cases_lt, chained, edge, false, false≢true, get_or, get_or-replicate, get_or-set_other, get_or-set_same}
use Rattle.cargo_toml_resolve.proofs.Cited.{get_or_past, inl, inr, label_within, length, length-replicate, reaches_within, refl, replicate, row_items, set, subst, sym, through, true, ℕ, ◌+◌, ◌<◌, ◌↔◌, ◌∙◌, ◌∷◌, ◌≡◌, ◌≢◌, ◌≤◌, ◌⊎◌}
use Rattle.cargo_toml_resolve.proofs.Steps.{gathered, last_edge, with_last}

module _ (E : ℕ → ℕ → Type 0) (R : ℕ → Type 0) (L : ℕ → ℕ → Type 0) where
  -- a removed vertex below n
  abbrev pub Under : ℕ → ℕ → Type 0
  Under n v = R v × (v < n)

  -- what the rows of the vertices below r, and the vertex r itself, hold
  pub record AreRows (r : ℕ) (E' L' : ℕ → ℕ → Type 0) : Type 0 where
    pub start_edges : (b : ℕ) → E' r b ↔ E r b
    pub start_labels : (x : ℕ) → L' r x ↔ L r x
    pub row_edges : (s b : ℕ) → Under r s → E' s b ↔ (Reaches E (Under s) s b × ¬ Under s b)
    pub row_labels : (s x : ℕ) → Under r s → L' s x ↔ (GathersLabel E (Under s) L s x × ¬ Under s x)

  snoc : (n : ℕ) {a b c : ℕ} → Reaches E (Under n) a b → Under n b → E b c → Reaches E (Under n) a c
  snoc n p u e = chained (Under n) p u (edge e)

  module _ (r : ℕ) (E' L' : ℕ → ℕ → Type 0) (rows : AreRows r E' L') where
    lift : (s v : ℕ) → Under r s → Under s v → Under r v
    lift s v u w = grind arith

    -- a step along a row is a path
    unrow : {s b : ℕ} → Under r s → E' s b → Reaches E (Under r) s b
    unrow {s} {b} u e = reaches_within (Under s) (Under r) (λ v w. lift s v u w) ((rows.row_edges s b u).0 e).0

    unrow_path : {s b : ℕ} → Under r s → Reaches E' (Under r) s b → Reaches E (Under r) s b
    unrow_path u (edge e) = unrow u e
    unrow_path u (through e w p) = chained (Under r) (unrow u e) w (unrow_path w p)

    unrow_start : {b : ℕ} → Reaches E' (Under r) r b → Reaches E (Under r) r b
    unrow_start {b} (edge e) = edge ((rows.start_edges b).0 e)
    unrow_start (through {b = c} e w p) = through ((rows.start_edges c).0 e) w (unrow_path w p)

    further : {a b c : ℕ} → Reaches E (Under r) a b → Under r b → Gathers E (Under r) b c → Gathers E (Under r) a c
    further {a} p u (inl same) = inr (subst (Under r) (sym same) u, subst (λ v. Reaches E (Under r) a v) (sym same) p)
    further p u (inr g) = inr (g.0, chained (Under r) p u g.1)

    pub rows_sound : (x : ℕ) → GathersLabel E' (Under r) L' r x → GathersLabel E (Under r) L r x
    rows_sound x (b, inl same, l) = (r, inl refl, (rows.start_labels x).0 (subst (λ v. L' v x) same l))
    rows_sound x (b, inr g, l) =
        let m = ((rows.row_labels b x g.0).0 l).0 in
        let inner : Gathers E (Under r) b m.0 = elim (m.1) [ inl same ↦ inl same | inr h ↦ inr (lift b m.0 g.0 h.0, reaches_within (Under b) (Under r) (λ v w. lift b v g.0 w) h.1) ] in
        (m.0, further (unrow_start g.1) g.0 inner, m.2)

    module _ (x : ℕ) (out : ¬ Under r x) where
      abbrev Cut : ℕ → Type 0
      Cut a = (k : ℕ) × Gathers E' (Under r) a k × L' k x

      out_under : (a : ℕ) → Under r a → ¬ Under a x
      out_under a u w = out (lift a x u w)

      -- the first step along a row
      prepend : {a c : ℕ} → E' a c → Under r c → Cut c → Cut a
      prepend {a} {c} e u k = (k.0, elim (k.1) [ inl same ↦ inr (subst (Under r) (sym same) u, subst (λ v. Reaches E' (Under r) a v) (sym same) (edge e)) | inr g ↦ inr (g.0, through e u g.1) ], k.2)

      -- the end of the path
      ended : (a b : ℕ) → Under r a → Under r b → Reaches E (Under a) a b → L b x → (b < a) ⊎ (a ≤ b) → Cut a
      ended a b u w p l q = grind (arith, out_under, prepend)

      -- from a, by removed vertices below it, to c, and on to b
      cut : {c b : ℕ} (a : ℕ) → Under r a → Under r c → Under r b → Reaches E (Under a) a c → Reaches E (Under r) c b → L b x → (c < a) ⊎ (a ≤ c) → Cut a
      cut {c} {b} a u w v p (edge e) l (inl lt) = ended a b u v (snoc a p (w.0, lt) e) l (cases_lt b a)
      cut {c} a u w v p (through {b = d} e s q) l (inl lt) = cut a u s v (snoc a p (w.0, lt) e) q l (cases_lt d a)
      cut {c} {b} a u w v p (edge e) l (inr le) = prepend ((rows.row_edges a c u).1 (p, λ h. absurd (omega (arith, le, h.1)))) w (ended c b w v (edge e) l (cases_lt b c))
      cut {c} a u w v p (through {b = d} e s q) l (inr le) = prepend ((rows.row_edges a c u).1 (p, λ h. absurd (omega (arith, le, h.1)))) w (cut c w s v (edge e) q l (cases_lt d c))

      from_start : {b : ℕ} → Under r b → Reaches E (Under r) r b → L b x → Cut r
      from_start {b} v (edge e) l = prepend ((rows.start_edges b).1 e) v (b, inl refl, (rows.row_labels b x v).1 ((b, inl refl, l), out_under b v))
      from_start {b} v (through {b = c} e s (edge f)) l = prepend ((rows.start_edges c).1 e) s (ended c b s v (edge f) l (cases_lt b c))
      from_start {b} v (through {b = c} e s (through {b = d} f t q)) l = prepend ((rows.start_edges c).1 e) s (cut c s t v (edge f) q l (cases_lt d c))

      rows_complete : GathersLabel E (Under r) L r x → GathersLabel E' (Under r) L' r x
      rows_complete p = grind (arith, from_start)

    -- the next row, from the rows below
    pub next_row : (x : ℕ) → (GathersLabel E' (Under r) L' r x × ¬ Under r x) ↔ (GathersLabel E (Under r) L r x × ¬ Under r x)
    next_row x = (λ h. (rows_sound x h.0, h.1), λ h. (rows_complete x h.1 h.0, h.1))

-- a removed vertex below n
abbrev pub IsBelow : List Bool → ℕ → ℕ → Type 0
IsBelow removed n v = IsWanted removed true v × (v < n)

-- the flags of the removed vertices below n are true
abbrev pub IsFinished : List Bool → ℕ → List Bool → Type 0
IsFinished removed n finished = (v : ℕ) → IsWanted finished true v ↔ IsBelow removed n v

pub not_own : (removed : List Bool) (r : ℕ) → ¬ IsBelow removed r r
not_own removed r u = absurd (omega (arith, u.1))

pub under_later : (removed : List Bool) (r a : ℕ) → IsBelow removed r a → IsBelow removed (r + 1) a
under_later removed r a u = (u.0, omega (arith, u.1))

pub under_split : (removed : List Bool) (r a : ℕ) → a ≢ r → IsBelow removed (r + 1) a → IsBelow removed r a
under_split removed r a ne u = (u.0, omega (arith, u.1))

module _ (removed : List Bool) (r : ℕ) (kept : IsWanted removed false r) where
  pub back : (v : ℕ) → IsBelow removed (r + 1) v → IsBelow removed r v
  back v u = under_split removed r v (λ same. false≢true (sym kept ∙ ap (λ z. get_or removed z false) (sym same) ∙ u.0)) u

  pub still_finished : (finished : List Bool) → IsFinished removed r finished → IsFinished removed (r + 1) finished
  still_finished finished h v = (λ w. under_later removed r v ((h v).0 w), λ u. (h v).1 (back v u))

pub one_more_finished : (removed finished : List Bool) (r : ℕ) → r < length finished → IsWanted removed true r → IsFinished removed r finished → IsFinished removed (r + 1) (set finished r true)
one_more_finished removed finished r lt gone h v = grind (arith, cases_eq v r, get_or-set_same finished r true false lt, under_later, get_or-set_other, under_split)

pub none_among : (xs : List ℕ) → length xs ≡ 0 → (b : ℕ) → ¬ Among xs b
none_among [] e b i = absurd i
none_among (x ∷ xs) e b i = absurd (omega arith)

module _ (edges : List (List ℕ)) (removed : List Bool) where
  -- the rows of the removed vertices below n are finished, and the others are as they were
  pub record RowsState (initial : List (List ℕ)) (bound n : ℕ) (rows : List (List ℕ)) : Type 0 where
    pub len : length rows ≡ length initial
    pub inside : (a x : ℕ) → Leads rows a x → x < bound
    pub done : (a x : ℕ) → IsBelow removed n a → Leads rows a x ↔ IsRedirect edges removed initial a x
    pub left : (a x : ℕ) → ¬ IsBelow removed n a → Leads rows a x ↔ Leads initial a x

  pub skipped_rows : (initial : List (List ℕ)) (bound r : ℕ) (rows : List (List ℕ)) → IsWanted removed false r → RowsState initial bound r rows → RowsState initial bound (r + 1) rows
  skipped_rows initial bound r rows kept h = grind (arith, back, under_later)

  -- the row of r becomes its redirect
  pub next_rows : (initial : List (List ℕ)) (bound r : ℕ) (rows : List (List ℕ)) → RowsState initial bound r rows → IsWanted removed true r → (new : List (List ℕ)) → Replaces r (IsRedirect edges removed initial r) rows new
      → ((x : ℕ) → IsRedirect edges removed initial r x → x < bound) → RowsState initial bound (r + 1) new
  next_rows initial bound r rows h gone new v below = grind (arith, cases_eq, under_split, under_later)

  module _ (initial : List (List ℕ)) (bound within r : ℕ) (targets rows : List (List ℕ)) (t : RowsState edges within r targets) (h : RowsState initial bound r rows) where
    are_rows : AreRows (Leads edges) (IsWanted removed true) (Leads initial) r (Leads targets) (Leads rows)
    are_rows = record {
      start_edges = λ b. t.left r b (not_own removed r);
      start_labels = λ x. h.left r x (not_own removed r);
      row_edges = λ s b u. (
        λ i. let d = (t.done s b u).0 i in (with_last (Leads edges) (IsBelow removed s) d.0.1 d.0.2, d.1),
        λ p. (t.done s b u).1 (last_edge (Leads edges) (IsBelow removed s) p.0, p.1),
      );
      row_labels = λ s x u. h.done s x u;
    }

    module _ (finished : List Bool) (f : IsFinished removed r finished) (passed : List ℕ) (is : (b : ℕ) → Among passed b ↔ IsPassed targets finished r b) where
      row_is : (x : ℕ) → HasLabel (Among passed) rows finished r x ↔ IsRedirect edges removed initial r x
      row_is x = (
        λ l.
            let n = (gathered targets finished rows (Among passed) r is x).0 l in
            (next_row (Leads edges) (IsWanted removed true) (Leads initial) r (Leads targets) (Leads rows) are_rows x).0
            (label_within (Leads rows) (IsWanted finished true) (IsBelow removed r) (λ v w. (f v).0 w) r x n.0, λ u. false≢true (sym n.1 ∙ (f x).1 u)),
        λ w.
            let m = (next_row (Leads edges) (IsWanted removed true) (Leads initial) r (Leads targets) (Leads rows) are_rows x).1 w in
            (gathered targets finished rows (Among passed) r is x).1 (
              label_within (Leads rows) (IsBelow removed r) (IsWanted finished true) (λ v u. (f v).1 u) r x m.0,
              elim (cases_Bool (get_or finished x false)) [ inl e ↦ absurd (m.1 ((f x).0 e)) | inr e ↦ e ],
            ),
      )

      pub one_more_row : IsWanted removed true r → (new : List (List ℕ)) → Replaces r (HasLabel (Among passed) rows finished r) rows new → RowsState initial bound (r + 1) new
      one_more_row gone new v = next_rows initial bound r rows h gone new
          (record {
            len = v.len;
            here = λ x. (λ i. (row_is x).0 ((v.here x).0 i), λ w. (v.here x).1 ((row_is x).1 w));
            others = v.others;
          })
          (λ x w. let l = (row_is x).1 w in h.inside l.0.0 x l.0.2)

-- the rows from r on, and those that aren't marked as moved, are as they were
abbrev pub KeepsOwn : ℕ → List Bool → List (List ℕ) → List (List ℕ) → Type 0
KeepsOwn r moved initial rows = (a : ℕ) → IsWanted moved false a ⊎ (r ≤ a) → row_items rows a ≡ row_items initial a

pub none_moved : (moved : List Bool) (rows : List (List ℕ)) → KeepsOwn 0 moved rows rows
none_moved moved rows a d = refl

pub still_own : (r : ℕ) (moved : List Bool) (initial rows : List (List ℕ)) → KeepsOwn r moved initial rows → KeepsOwn (r + 1) moved initial rows
still_own r moved initial rows h a d = h a (elim d [ inl e ↦ inl e | inr le ↦ inr (omega (arith, le)) ])

pub one_more_own : (r : ℕ) (moved : List Bool) (initial rows new : List (List ℕ)) (is_moved : Bool) (P : ℕ → Type 0) → r < length moved → KeepsOwn r moved initial rows → Moves r P rows new is_moved
    → KeepsOwn (r + 1) (set moved r is_moved) initial new
one_more_own r moved initial rows new is_moved P lt h m a d = grind (arith, cases_eq a r, get_or-set_same moved r is_moved false lt, get_or-set_other)

-- before the first
pub first_rows : (edges : List (List ℕ)) (removed : List Bool) (initial : List (List ℕ)) (bound : ℕ) → ((a x : ℕ) → Leads initial a x → x < bound) → RowsState edges removed initial bound 0 initial
first_rows edges removed initial bound inside = grind arith

pub finds_redirects : (edges labels : List (List ℕ)) (flags moved : List Bool) (n : ℕ) (rows : List (List ℕ)) → length labels ≤ n → RowsState edges flags labels (length flags) n rows → length moved ≡ length flags → KeepsOwn n moved labels rows → FindsRedirects edges labels flags moved rows
finds_redirects edges labels flags moved n rows all state count own = grind arith

below_none : (removed : List Bool) (v : ℕ) → ¬ IsBelow removed 0 v
below_none removed v u = absurd (omega (arith, u.1))

pub none_finished : (removed : List Bool) (n : ℕ) (finished : List Bool) → finished ≡ replicate n false → IsFinished removed 0 finished
none_finished removed n finished e v = grind (arith, cases_lt v n, get_or-replicate, get_or_past, length-replicate n false, below_none removed)
