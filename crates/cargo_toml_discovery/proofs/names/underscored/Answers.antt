use Rattle.cargo_toml_discovery.proofs.Cited.{Bool, FindsChar, HasCharAt, IfOk-weaker, IsCharPattern, List, Name, NoCharPasses, NoCharPasses-char, None, Option, ReplacesMatches, Some, [], ap, arith, cond, drop, drop_at_char, get_or, inl, inr, len_utf8_ascii, length, map-append, nat_eq, ne_eqb, refl, subst, suc, sym, take, take-append-drop, underscored, zero, ℕ, ◌++◌, ◌<◌, ◌∙◌, ◌∷◌, ◌≡◌}
use Rattle.cargo_toml_discovery.proofs.names.underscored.Goals as goal

kept : (s : Name) → ((i : ℕ) → i < length s → get_or s i 0 ≡ 45 → ⊥) → underscored s ≡ s
kept [] h = refl
kept (b ∷ s) h =
    ap (λ (e : Bool). cond e 95 b ∷ underscored s) (ne_eqb b 45 (h 0 (omega arith)))
    ∙ ap (λ (t : Name). b ∷ t) (kept s (λ i below. h (suc i) (omega arith)))

no_dash : (s : Name) → NoCharPasses (λ d. nat_eq d 45) s → underscored s ≡ s
no_dash s h = kept s (λ i below. NoCharPasses-char 45 s i h (omega arith) below)

module _ (finds : ℕ → List ℕ → Option (ℕ × ℕ) → Type 0) (keeps : ℕ → ℕ → Type 0) (pattern : IsCharPattern finds keeps 45 45) where
  at_dash : (s : Name) (a b : ℕ) (rest : Name) → NoCharPasses (λ d. nat_eq d 45) (take a s) → HasCharAt 45 s a b → rest ≡ underscored (drop b s) → take a s ++ (95 ∷ rest) ≡ underscored s
  at_dash s a b rest none here is =
      ap (λ (t : Name). take a s ++ (95 ∷ t)) is
      ∙ ap (λ (t : Name). t ++ underscored (45 ∷ drop b s)) (sym (no_dash (take a s) none))
      ∙ ap (λ (t : Name). underscored (take a s) ++ underscored t) (sym (drop_at_char 45 s a b here (omega arith)))
      ∙ sym (map-append (λ b. cond (nat_eq b 45) 95 b) (take a s) (drop a s))
      ∙ ap underscored (take-append-drop a s)

  pub dashes : (n : ℕ) (s out : Name) → ReplacesMatches finds keeps (95 ∷ []) n 45 s out → out ≡ underscored s
  dashes zero s out r = r.1 ∙ sym (no_dash s (pattern.1 s None r.0))
  dashes (suc n) s out (a, b, q, rest, found, same, inl next, is) =
      let f = pattern.1 s (Some (a, b)) found in
      is ∙ at_dash s a b rest f.0 f.1 (dashes n (drop b s) rest (subst (λ (p : ℕ). ReplacesMatches finds keeps (95 ∷ []) n p (drop b s) rest) (pattern.0 q same) next.1))
  dashes (suc n) s out (a, b, q, rest, found, same, inr next, is) =
      let f = pattern.1 s (Some (a, b)) found in
      let e = next.0 in
      absurd (omega (arith, f.1.ends, len_utf8_ascii 45 (omega arith)))

pub returns : goal.returns
returns c = IfOk-weaker c.replace.result _ _ (λ s h. dashes (λ (c : ℕ). FindsChar c) (λ (p q : ℕ). q ≡ p) ((λ q e. e), (λ w o f. f)) h.0 c.args.name.now _ h.1) c.replace.ensures.ok
