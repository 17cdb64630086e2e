-- A text that grows by a piece for each element, and what is told of each.
use Rattle.cargo_toml_program.proofs.Cited.{AddsLines, AllByRecursion, BTreeSet, HashMap, IfSome, List, None, Option, Some, Text, TextsAscend, [], ap, append-nil, append_assoc, bytes_eq-Decides, false≢true, flat_map, inl, inr, is_at, is_eq-slice_cmp, is_some, line_at, list_any, nat_cmp, or_cases, refl, set_has, slice_cmp, subst, sym, true, value_at, ◌++◌, ◌∙◌, ◌∷◌, ◌≡◌}
use Rattle.std.specs.Borrow.{Bor}

-- none is left
pub ends : {X : Type 0} (show : X → Text) (whole text : Text) (left : List X) → left ≡ [] → text ++ flat_map show left ≡ whole → text ≡ whole
ends show whole text left none h = sym (append-nil text) ∙ ap (λ xs. text ++ flat_map show xs) (sym none) ∙ h

-- the piece of the first that was left is written
pub one_more : {X : Type 0} (show : X → Text) (x : X) (left rest : List X) (old new whole : Text) → left ≡ x ∷ rest → new ≡ old ++ show x → old ++ flat_map show left ≡ whole → new ++ flat_map show rest ≡ whole
one_more show x left rest old new whole is more before =
    ap (λ t. t ++ flat_map show rest) more
    ∙ append_assoc old (show x) (flat_map show rest)
    ∙ ap (λ xs. old ++ flat_map show xs) (sym is) ∙ before

-- a line was written for each of these keys, which are those of the map in order, and none is left
pub each_line : {X S : Type 0} (line : Text → X → Text) (found : HashMap (Bor Text) X S) (old new : Text) (names : BTreeSet (Bor Text)) (keys left : List (Bor Text)) →
    ((f : Text) → set_has names f ≡ is_some (value_at found f)) → TextsAscend names → keys ≡ names.keys → left ≡ [] →
    new ++ flat_map (λ k. line_at line found k.now) left ≡ old ++ flat_map (λ k. line_at line found k.now) keys → AddsLines line found old new
each_line line found old new names keys left all in_order same none written = record {
  names = names;
  in_order = in_order;
  all = all;
  lines =
      ends (λ (k : Bor Text). line_at line found k.now) (old ++ flat_map (λ k. line_at line found k.now) keys) new left none written
      ∙ ap (λ (ks : List (Bor Text)). old ++ flat_map (λ k. line_at line found k.now) ks) same;
}

-- ---- a fact of each element, which is told of one after another
module _ {Y : Type 0} (P : Y → Type 0) (all : List Y) where
  pub each_told : (y : Y) (left rest : List Y) → left ≡ y ∷ rest → P y → (AllByRecursion P left → AllByRecursion P all) → AllByRecursion P rest → AllByRecursion P all
  each_told y left rest is here before others =
      let Q : List Y → Type 0 = λ ys. AllByRecursion P ys in
      before (subst Q (sym is) (here, others))

  pub all_told : (left : List Y) → left ≡ [] → (AllByRecursion P left → AllByRecursion P all) → AllByRecursion P all
  all_told left none before = before (subst (λ ys. AllByRecursion P ys) (sym none) tt)

-- ---- what is told of each name tells of all that a map holds
module _ {X S : Type 0} (found : HashMap (Bor Text) X S) (P : X → Type 0) where
  -- of what the map holds under this key
  abbrev pub Told : Bor Text → Type 0
  Told k = IfSome (value_at found k.now) P

  at_name : (ks : List (Bor Text)) (f : Text) → AllByRecursion Told ks → list_any (is_at (λ k. slice_cmp nat_cmp f k.now)) ks ≡ true → IfSome (value_at found f) P
  at_name [] f told e = absurd (false≢true e)
  at_name (k ∷ ks) f told e = elim (or_cases _ _ e) [
    | inl here ↦
        let same : f ≡ k.now = (bytes_eq-Decides f k.now).0 (sym (is_eq-slice_cmp f k.now) ∙ here) in
        subst (λ t. IfSome (value_at found t) P) (sym same) told.0
    | inr later ↦ at_name ks f told.1 later
  ]

  pub told_of_all : (names : BTreeSet (Bor Text)) → ((f : Text) → set_has names f ≡ is_some (value_at found f)) → AllByRecursion Told names.keys → (f : Text) → IfSome (value_at found f) P
  told_of_all names all told f = go (value_at found f) refl
    where
      go : (o : Option X) → value_at found f ≡ o → IfSome o P
      go None e = tt
      go (Some x) e = subst (λ o. IfSome o P) e (at_name names.keys f told (all f ∙ ap is_some e))
