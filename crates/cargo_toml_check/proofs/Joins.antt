-- What a line says, from what is read of it.
use Rattle.std.proofs.Common.{◌≡◌, Bool, None, Option, Some, inl, inr, ap, cond, false, refl, sym, true, ◌||◌, ◌∙◌, ◌∷◌, ◌≢◌, [], codes, option_and_then, option_map, unwrap_or, nat_eq}
use Rattle.std.specs.{Ordering.match_ordering, Ordering.nat_cmp, Cmp.Lexicographic.slice_cmp, Option.MatchOption, Borrow.Bor}
use Rattle.std.specs.declared.cmp.Ordering.TheVariants.{Less, Equal, Greater}
use Rattle.std.proofs.lemmas.Bool.{cases_Bool, eqb-true}
use Rattle.serde_json.specs.Data.{Data, Members, array, boolean, member, no_members, null, number, object, put, string}
use Rattle.serde_json.specs.Find.{as_bool, get}
use Rattle.serde_json.specs.Written.{compact_text, has_float, members_have_float}
use Rattle.cargo_toml.specs.Action.{Text}
use Rattle.cargo_toml_check.specs.IndexFiles.{Entry, entry_in, text_at, unmarked, unyanked}

or_false : (a b : Bool) → (a || b) ≡ false → (a ≡ false) × (b ≡ false)
or_false true b h = cc
or_false false b h = (refl, h)

no_float_put : (k : Text) (b : Bool) (ms : Members) → members_have_float ms ≡ false → members_have_float (put k (boolean b) ms) ≡ false
no_float_put k b no_members h = refl
no_float_put k b (member l e ms) h =
    let parts : (has_float e ≡ false) × (members_have_float ms ≡ false) = or_false (has_float e) (members_have_float ms) h in
    let rest : members_have_float (put k (boolean b) ms) ≡ false = no_float_put k b ms parts.1 in
    elim (slice_cmp nat_cmp k l) as (λ o. members_have_float (match_ordering o (member k (boolean b) (member l e ms)) (member l (boolean b) ms) (member l e (put k (boolean b) ms))) ≡ false)
    [ Less ↦ h | Equal ↦ parts.1 | Greater ↦ ap (λ a. a || members_have_float (put k (boolean b) ms)) parts.0 ∙ rest ]

pub unyanked-no_float : (d : Data) → has_float d ≡ false → has_float (unyanked d) ≡ false
unyanked-no_float null h = h
unyanked-no_float (boolean b) h = h
unyanked-no_float (number n) h = h
unyanked-no_float (string s) h = h
unyanked-no_float (array ds) h = h
unyanked-no_float (object ms) h = no_float_put (codes "yanked") false ms h

-- what is read of a line makes what it says
pub entry-read : (d : Data) (n v : Text) (y : Bool) (a : Text) → has_float d ≡ false → Some n ≡ text_at (codes "name") d → Some v ≡ text_at (codes "vers") d
    → y ≡ unwrap_or (option_and_then as_bool (get (codes "yanked") d)) false → a ≡ compact_text (unyanked d)
    → Some (record { name = n; version = v; yanked = y; all = a }) ≡ cond (has_float d) None (entry_in d)
entry-read d n v y a whole named versioned marked said =
    let made : Text → Text → Bool → Text → Entry = λ n v y a. record { name = n; version = v; yanked = y; all = a } in
    let mark = unwrap_or (option_and_then as_bool (get (codes "yanked") d)) false in
    let all = compact_text (unyanked d) in
    ap (λ b. Some (made n v b a)) marked
    ∙ (ap (λ t. Some (made n v mark t)) said
    ∙ (ap (λ o. option_and_then (λ n. option_map (λ v. made n v mark all) (Some v)) o) named
    ∙ (ap (λ o. option_and_then (λ n. option_map (λ v. made n v mark all) o) (text_at (codes "name") d)) versioned
    ∙ ap (λ b. cond b None (entry_in d)) (sym whole))))

-- a path that doesn't begin with a space
pub unmarked-rest : (bs : Text) (r : Option (Bor Text)) (d : Bor Text) → ((rest : Text) → bs ≢ 32 ∷ rest) → MatchOption r ((rest : Text) → bs ≢ 42 ∷ rest) (λ x. bs ≡ 42 ∷ x.now) → d.now ≡ bs
    → (unwrap_or r d).now ≡ unmarked bs
unmarked-rest bs (Some x) d no_space star e = sym (ap unmarked star)
unmarked-rest [] None d no_space no_star e = e
unmarked-rest (b ∷ bs) None d no_space no_star e = elim (cases_Bool (nat_eq b 32)) [
  | inl t ↦ absurd (no_space bs (ap (λ x. x ∷ bs) (eqb-true b 32 t)))
  | inr s ↦ elim (cases_Bool (nat_eq b 42)) [
    | inl t ↦ absurd (no_star bs (ap (λ x. x ∷ bs) (eqb-true b 42 t)))
    | inr t ↦ e ∙ (ap (λ c. cond c bs (b ∷ bs)) (sym (ap (λ a. a || nat_eq b 42) s ∙ t)))
  ]
]
