-- Tables from which keys were taken.
use Rattle.std.proofs.Common.{◌≡◌, ◌⊎◌, inl, inr, true, false, Bool, cond, is_eq, Option, Some, None, List, ◌∷◌, [], ◌++◌, ℕ, nat_cmp, String, Global, string_bytes, refl, sym, ap, ◌∙◌, Ordering, Less, Equal, Greater}
use Rattle.std.specs.Prelude.{MatchBool}
use Rattle.std.specs.BTreeMap.{is_at}
use Rattle.std.specs.Cmp.Lexicographic.{slice_cmp}
use Rattle.std.specs.Map.{lookup, remove_entry}
use Rattle.std.specs.Ordering.{match_ordering}
use Rattle.std.specs.Str.{bytes_eq}
use Rattle.std.proofs.lemmas.Bool.{false≢true}
use Rattle.std.proofs.lemmas.Map.Text.{is_eq-slice_cmp}
use Rattle.std.proofs.lemmas.Slice.Eq.{bytes_eq-Decides}
use Rattle.toml.specs.Data.{Data, Members, no_members, member, get_member}
use Rattle.toml.specs.View.{members_view}
use Rattle.toml.proofs.Views.{Entry}
use Rattle.cargo_toml_parts.specs.declared.error.Error.{Error}
use Rattle.cargo_toml_parts.specs.Reads.{is_among, others_read, OthersRefuse}
use Rattle.cargo_toml_parts.specs.Readings.{without}

abbrev at : List ℕ → String Global → Bool
at k = is_at (λ x. slice_cmp nat_cmp k (string_bytes x))

-- a key that no entry has
absent_at : (b : Bool) (k : List ℕ) (e : Entry) (es : List Entry) → bytes_eq k (string_bytes e.0) ≡ b → cond b (Some e.1) (lookup (at k) es) ≡ None
    → (lookup (at k) es ≡ None → without (k ∷ []) (members_view es) ≡ members_view es) → without (k ∷ []) (members_view (e ∷ es)) ≡ members_view (e ∷ es)
absent_at true k e es here none rest = absurd cc
absent_at false k e es here none rest = rw (here, rest none) refl

absent : (k : List ℕ) (es : List Entry) → lookup (at k) es ≡ None → without (k ∷ []) (members_view es) ≡ members_view es
absent k [] none = refl
absent k (e ∷ es) none =
    absent_at (at k e.0) k e es (sym (is_eq-slice_cmp k (string_bytes e.0))) none (absent k es)

-- the entry of the key is gone, and no other entry has it
left_at : (b : Bool) (k : List ℕ) (e : Entry) (es : List Entry) → at k e.0 ≡ b → bytes_eq k (string_bytes e.0) ≡ b → lookup (at k) (cond b es (e ∷ remove_entry (at k) es)) ≡ None
    → (lookup (at k) (remove_entry (at k) es) ≡ None → members_view (remove_entry (at k) es) ≡ without (k ∷ []) (members_view es))
    → members_view (cond b es (e ∷ remove_entry (at k) es)) ≡ without (k ∷ []) (members_view (e ∷ es))
left_at true k e es here same none rest = rw same (sym (absent k es none))
left_at false k e es here same none rest =
    let gone : lookup (at k) (remove_entry (at k) es) ≡ None = sym (ap (λ b. cond b (Some e.1) (lookup (at k) (remove_entry (at k) es))) here) ∙ none in
    rw (same, rest gone) refl

left : (k : List ℕ) (es : List Entry) → lookup (at k) (remove_entry (at k) es) ≡ None → members_view (remove_entry (at k) es) ≡ without (k ∷ []) (members_view es)
left k [] none = refl
left k (e ∷ es) none =
    left_at (at k e.0) k e es refl (sym (is_eq-slice_cmp k (string_bytes e.0))) none (left k es)

pub is_left : (k : List ℕ) (es fs : List Entry) → fs ≡ remove_entry (at k) es → lookup (at k) fs ≡ None → members_view fs ≡ without (k ∷ []) (members_view es)
is_left k es fs taken none = ap members_view taken ∙ left k es (ap (lookup (at k)) (sym taken) ∙ none)

-- what another key gives stays
same_key : (k l : List ℕ) → is_eq (slice_cmp nat_cmp k l) ≡ true → k ≡ l
same_key k l h = (bytes_eq-Decides k l).0 (sym (is_eq-slice_cmp k l) ∙ h)

passed : (o : Ordering) (d x : Option Data) → is_eq o ≡ false → match_ordering o d x d ≡ d
passed Less d x h = refl
passed Equal d x h = absurd (false≢true (sym h))
passed Greater d x h = refl

other : (b : Bool) (gone : List (List ℕ)) (key k : List ℕ) → is_eq (slice_cmp nat_cmp key k) ≡ b → is_among gone k ≡ true → is_among gone key ≡ false → b ≡ false
other false gone key k here among apart = refl
other true gone key k here among apart = absurd (false≢true (sym apart ∙ ap (is_among gone) (same_key key k here) ∙ among))

stays_at : (b : Bool) (gone : List (List ℕ)) (key k : List ℕ) (d : Data) (ms : Members) → is_among gone k ≡ b → is_among gone key ≡ false
    → get_member key (without gone ms) ≡ get_member key ms → get_member key (cond b (without gone ms) (member k d (without gone ms))) ≡ get_member key (member k d ms)
stays_at true gone key k d ms among apart rest =
    rest ∙ sym (passed (slice_cmp nat_cmp key k) (get_member key ms) (Some d) (other (is_eq (slice_cmp nat_cmp key k)) gone key k refl among apart))
stays_at false gone key k d ms among apart rest = ap (λ o. match_ordering (slice_cmp nat_cmp key k) o (Some d) o) rest

pub stays : (gone : List (List ℕ)) (key : List ℕ) (ms : Members) → is_among gone key ≡ false → get_member key (without gone ms) ≡ get_member key ms
stays gone key no_members apart = refl
stays gone key (member k d ms) apart = stays_at (is_among gone k) gone key k d ms refl apart (stays gone key ms apart)

-- one key more
among_at : (b c d : Bool) → cond b true (cond c true d) ≡ cond (cond b true c) true d
among_at true c d = refl
among_at false c d = refl

among_both : (xs ys : List (List ℕ)) (k : List ℕ) → is_among (xs ++ ys) k ≡ cond (is_among xs k) true (is_among ys k)
among_both [] ys k = refl
among_both (x ∷ xs) ys k = rw (among_both xs ys k) (among_at (bytes_eq x k) (is_among xs k) (is_among ys k))

both_at : (b c : Bool) (k : List ℕ) (d : Data) (xs ys : List (List ℕ)) (ms : Members) → is_among xs k ≡ b → is_among ys k ≡ c → without ys (without xs ms) ≡ without (xs ++ ys) ms
    → without ys (cond b (without xs ms) (member k d (without xs ms))) ≡ cond (cond b true c) (without (xs ++ ys) ms) (member k d (without (xs ++ ys) ms))
both_at true c k d xs ys ms here there rest = rest
both_at false c k d xs ys ms here there rest = rw (there, rest) refl

pub without_both : (xs ys : List (List ℕ)) (ms : Members) → without ys (without xs ms) ≡ without (xs ++ ys) ms
without_both xs ys no_members = refl
without_both xs ys (member k d ms) = rw (among_both xs ys k) (both_at (is_among xs k) (is_among ys k) k d xs ys ms refl refl (without_both xs ys ms))

-- the rest is read of what is left
rest_at : {M : Type 0} (b : Bool) (names : List (List ℕ)) (reads : Data → Option M) (k : List ℕ) (d : Data) (ms : Members) → others_read [] reads (without names ms) ≡ others_read names reads ms
    → others_read [] reads (cond b (without names ms) (member k d (without names ms))) ≡ cond b (others_read names reads ms) (others_read [] reads (member k d (without names ms)))
rest_at true names reads k d ms rest = rest
rest_at false names reads k d ms rest = refl

pub rest_read : {M : Type 0} (names : List (List ℕ)) (reads : Data → Option M) (ms : Members) → others_read [] reads (without names ms) ≡ others_read names reads ms
rest_read names reads no_members = refl
rest_read names reads (member k d ms) = rest_at (is_among names k) names reads k d ms (rest_read names reads ms) ∙ rw (rest_read names reads ms) refl

refuses_at : (b : Bool) (names : List (List ℕ)) (refuses : Data → Error → Type 0) (k : List ℕ) (d : Data) (ms : Members) (e : Error) → (OthersRefuse [] refuses (without names ms) e → OthersRefuse names refuses ms e)
    → OthersRefuse [] refuses (cond b (without names ms) (member k d (without names ms))) e → MatchBool b (OthersRefuse names refuses ms e) (refuses d e ⊎ OthersRefuse names refuses ms e)
refuses_at true names refuses k d ms e rest h = rest h
refuses_at false names refuses k d ms e rest (inl h) = inl h
refuses_at false names refuses k d ms e rest (inr h) = inr (rest h)

pub rest_refuses : (names : List (List ℕ)) (refuses : Data → Error → Type 0) (ms : Members) (e : Error) → OthersRefuse [] refuses (without names ms) e → OthersRefuse names refuses ms e
rest_refuses names refuses no_members e h = h
rest_refuses names refuses (member k d ms) e h = refuses_at (is_among names k) names refuses k d ms e (rest_refuses names refuses ms e) h
