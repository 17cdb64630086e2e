-- A map that is made in one go of pairs whose keys ascend has these pairs as its entries.
use Rattle.std.proofs.Common.{◌≡◌, true, false, Bool, cond, Option, Some, None, Result, Ok, Err, IfOk, is_eq, is_some, sym, ap, ℕ, nat_cmp, map, List, [], ◌∷◌, String, Global, BTreeMap, Ordering, Less, Equal, Greater, string_bytes, refl, ◌∙◌}
use Rattle.std.specs.BTreeMap as tree
use Rattle.std.specs.BTreeMap.{is_at}
use Rattle.std.specs.Cmp.{IsTotalOrder, eq_by_cmp_equiv, tied_itself}
use Rattle.std.specs.Cmp.Lexicographic.{slice_cmp}
use Rattle.std.specs.List.Sorted.{IsStrictlySortedBy}
use Rattle.std.specs.Map.{keys_of, lookup, update, update_all}
use Rattle.std.specs.Option.{option_or, unwrap_or}
use Rattle.std.specs.Ordering.{eq_by_cmp, ordering_reverse}
use Rattle.std.specs.String.{string_cmp}
use Rattle.std.proofs.lemmas.Bool.{false≢true}
use Rattle.std.proofs.lemmas.Cmp.{nat_list_cmp_total}
use Rattle.std.proofs.lemmas.Map.{lookup-none}
use Rattle.std.proofs.lemmas.Map.Entries.{none_below_head, none_past_head}
use Rattle.std.proofs.lemmas.Map.Keys.{IsDistinct-from_sorted}
use Rattle.std.proofs.lemmas.Map.Text.{is_eq-slice_cmp}
use Rattle.std.proofs.lemmas.Slice.Eq.{bytes_eq-Decides}
use Rattle.cargo_toml_parts.specs.Reads.{pairs_meaning, map_meaning}

same_key : (k l : List ℕ) → slice_cmp nat_cmp k l ≡ Equal → k ≡ l
same_key k l h = (bytes_eq-Decides k l).0 (sym (is_eq-slice_cmp k l) ∙ ap is_eq h)

pub texts_total : IsTotalOrder (string_cmp {Z = Global})
texts_total = record {
  antisymm = λ x y. nat_list_cmp_total.antisymm (string_bytes x) (string_bytes y);
  trans = λ x y z. nat_list_cmp_total.trans (string_bytes x) (string_bytes y) (string_bytes z);
  congr = λ x y z. nat_list_cmp_total.congr (string_bytes x) (string_bytes y) (string_bytes z);
}

is_eq-reverse : (o : Ordering) → is_eq (ordering_reverse o) ≡ is_eq o
is_eq-reverse Less = refl
is_eq-reverse Equal = refl
is_eq-reverse Greater = refl

pub tied_both_ways : (q k : String Global) → is_eq (string_cmp q k) ≡ is_eq (string_cmp k q)
tied_both_ways q k = ap is_eq (texts_total.antisymm q k) ∙ is_eq-reverse (string_cmp k q)

pub tied_alike : (q k l : String Global) → string_cmp k l ≡ Equal → is_eq (string_cmp q k) ≡ is_eq (string_cmp q l)
tied_alike q k l same = tied_both_ways q k ∙ ap is_eq (texts_total.congr k l q same) ∙ tied_both_ways l q

module _ {X : Type 0} where
  abbrev at : List (String Global × X) → String Global → Option X
  at es q = lookup (is_at (string_cmp q)) es

  abbrev pub Ascend : List (String Global × X) → Type 0
  Ascend es = IsStrictlySortedBy string_cmp (keys_of es)

  ascend_tail : (e : String Global × X) (es : List (String Global × X)) → Ascend (e ∷ es) → Ascend es
  unfolding IsStrictlySortedBy
  ascend_tail e es all = all.1

  at_head : (e : String Global × X) (es : List (String Global × X)) → at (e ∷ es) e.0 ≡ Some e.1
  at_head e es = ap (λ b. cond b (Some e.1) (at es e.0)) (ap is_eq (tied_itself texts_total e.0))

  nothing_below : (q : String Global) (e : String Global × X) (es : List (String Global × X)) → Ascend (e ∷ es) → string_cmp q e.0 ≡ Less → at (e ∷ es) q ≡ None
  nothing_below q e es all lt = lookup-none (is_at (string_cmp q)) (e ∷ es) (none_below_head texts_total q e es all lt)

  nothing_past : (q : String Global) (e : String Global × X) (es : List (String Global × X)) → Ascend (e ∷ es) → is_eq (string_cmp q e.0) ≡ true → at es q ≡ None
  nothing_past q e es all tied =
      lookup-none (is_at (string_cmp q)) es (none_past_head (eq_by_cmp_equiv texts_total) q e es (IsDistinct-from_sorted string_cmp (keys_of (e ∷ es)) all) tied)

  -- what pairs that ascend leave of a function: their own values, and its own elsewhere
  update_head : (b : Bool) (e : String Global × X) (es : List (String Global × X)) (f : Option X) (q : String Global) → is_eq (string_cmp q e.0) ≡ b → Ascend (e ∷ es)
      → option_or (at es q) (cond (is_eq (string_cmp e.0 q)) (Some e.1) f) ≡ option_or (at (e ∷ es) q) f
  update_head true e es f q tied all = rw (nothing_past q e es all tied, ← tied_both_ways q e.0, tied)
  update_head false e es f q apart all = rw (← tied_both_ways q e.0, apart)

  updates_at : (es : List (String Global × X)) (f : String Global → Option X) (q : String Global) → Ascend es
      → update_all (eq_by_cmp string_cmp) f es q ≡ option_or (at es q) (f q)
  updates_at [] f q all = refl
  updates_at (e ∷ es) f q all =
      updates_at es (update (eq_by_cmp string_cmp) f e.0 (Some e.1)) q (ascend_tail e es all)
      ∙ update_head (is_eq (string_cmp q e.0)) e es (f q) q refl all

  or_none : (o : Option X) → option_or o None ≡ o
  or_none None = refl
  or_none (Some x) = refl

  -- entries in order in which each key has the same value
  abbrev Alike : List (String Global × X) → List (String Global × X) → Type 0
  Alike es fs = (q : String Global) → at es q ≡ at fs q

  tail_at : (b : Bool) (e f : String Global × X) (es fs : List (String Global × X)) (q : String Global) → is_eq (string_cmp q e.0) ≡ b → is_eq (string_cmp q f.0) ≡ b
      → Ascend (e ∷ es) → Ascend (f ∷ fs) → at (e ∷ es) q ≡ at (f ∷ fs) q → at es q ≡ at fs q
  tail_at true e f es fs q here there a b h = nothing_past q e es a here ∙ sym (nothing_past q f fs b there)
  tail_at false e f es fs q here there a b h =
      sym (ap (λ x. cond x (Some e.1) (at es q)) here) ∙ h ∙ ap (λ x. cond x (Some f.1) (at fs q)) there

  alike_tail : (e f : String Global × X) (es fs : List (String Global × X)) → string_cmp e.0 f.0 ≡ Equal → Ascend (e ∷ es) → Ascend (f ∷ fs) → Alike (e ∷ es) (f ∷ fs) → Alike es fs
  alike_tail e f es fs same a b h =
      λ q. tail_at (is_eq (string_cmp q e.0)) e f es fs q refl (sym (tied_alike q e.0 f.0 same)) a b (h q)

  abbrev meant : List (String Global × X) → List (List ℕ × X)
  meant es = pairs_meaning (λ x. x) es

  same_entry : (e f : String Global × X) (es fs : List (String Global × X)) → string_cmp e.0 f.0 ≡ Equal → Alike (e ∷ es) (f ∷ fs) → meant es ≡ meant fs
      → meant (e ∷ es) ≡ meant (f ∷ fs)
  same_entry e f es fs same h rest =
      let value : e.1 ≡ f.1 = ap (λ o. unwrap_or o e.1) (sym (at_head e es) ∙ h e.0 ∙ ap (λ b. cond b (Some f.1) (at fs e.0)) (ap is_eq same)) in
      ap (λ k. (k, e.1) ∷ meant es) (same_key (string_bytes e.0) (string_bytes f.0) same)
      ∙ ap (λ v. (string_bytes f.0, v) ∷ meant es) value
      ∙ ap (λ xs. (string_bytes f.0, f.1) ∷ xs) rest

  missing : (o : Option X) (v : X) → o ≡ None → o ≡ Some v → ⊥
  missing o v none some = false≢true (ap is_some (sym none ∙ some))

  same_at : (o : Ordering) (e f : String Global × X) (es fs : List (String Global × X)) → o ≡ string_cmp e.0 f.0 → Ascend (e ∷ es) → Ascend (f ∷ fs) → Alike (e ∷ es) (f ∷ fs)
      → (Alike es fs → meant es ≡ meant fs) → meant (e ∷ es) ≡ meant (f ∷ fs)
  same_at Less e f es fs is a b h rest = absurd (missing (at (f ∷ fs) e.0) e.1 (nothing_below e.0 f fs b (sym is)) (sym (h e.0) ∙ at_head e es))
  same_at Equal e f es fs is a b h rest = same_entry e f es fs (sym is) h (rest (alike_tail e f es fs (sym is) a b h))
  same_at Greater e f es fs is a b h rest =
      absurd (missing (at (e ∷ es) f.0) f.1 (nothing_below f.0 e es a (texts_total.antisymm f.0 e.0 ∙ ap ordering_reverse (sym is))) (h f.0 ∙ at_head f fs))

  same_entries : (es fs : List (String Global × X)) → Ascend es → Ascend fs → Alike es fs → meant es ≡ meant fs
  same_entries [] [] a b h = refl
  same_entries [] (f ∷ fs) a b h = absurd (missing (at [] f.0) f.1 refl (h f.0 ∙ at_head f fs))
  same_entries (e ∷ es) [] a b h = absurd (missing (at [] e.0) e.1 refl (sym (h e.0) ∙ at_head e es))
  same_entries (e ∷ es) (f ∷ fs) a b h =
      same_at (string_cmp e.0 f.0) e f es fs refl a b h (λ alike. same_entries es fs (ascend_tail e es a) (ascend_tail f fs b) alike)

  pub made : {E : Type 0} (ps : List (String Global × X)) (r : Result (BTreeMap (String Global) X) E) → Ascend ps
      → IfOk r (λ t. tree.IsFromIterResult string_cmp ps t) → IfOk r (λ t. map_meaning (λ x. x) t ≡ pairs_meaning (λ x. x) ps)
  made ps (Err e) all h = tt
  made ps (Ok t) all h = same_entries t.entries ps h.1 all (λ q. h.0 q ∙ updates_at ps (λ _. None) q all ∙ or_none (at ps q))

  -- pairs that hold the same mean the same
  map_again : {M : Type 0} (meaning : X → M) (es : List (String Global × X)) → map (λ (p : List ℕ × X). (p.0, meaning p.1)) (meant es) ≡ pairs_meaning meaning es
  map_again meaning [] = refl
  map_again meaning (e ∷ es) = ap (λ xs. (string_bytes e.0, meaning e.1) ∷ xs) (map_again meaning es)

  pub mean_alike : {M : Type 0} (meaning : X → M) (es fs : List (String Global × X)) → pairs_meaning (λ x. x) es ≡ pairs_meaning (λ x. x) fs → pairs_meaning meaning es ≡ pairs_meaning meaning fs
  mean_alike meaning es fs same =
      sym (map_again meaning es) ∙ ap (map (λ (p : List ℕ × X). (p.0, meaning p.1))) same ∙ map_again meaning fs
