-- The places that are looked at, while some are waiting.
use Rattle.cargo_toml_audit.proofs.Cited.{Audit, Base, Bool, Gain, Global, List, MatchOption, None, Option, Reading, Reads, Some, String, Takes, Text, Vec, Visits, Walk, Walks, [], ap, append-nil, bytes_eq, cond, contains_text, ended, false, filter, filter-append, gain_of_all, inl, inr, is_excluded, is_in, is_member, looked, map, map-append, member_places, option_to_list, or-false, passed, places_read, refl, string_bytes, subst, sym, take, true, ℕ, ◌&&◌, ◌++◌, ◌+◌, ◌-◌, ◌||◌, ◌∙◌, ◌∷◌, ◌≡◌}
use Rattle.cargo_toml_audit.proofs.Texts.{one_more_in}
use Rattle.cargo_toml_audit.proofs.Taking.{one_more_gain, takes_both, takes_nothing}

-- one place more
one_more_place : (rs : List Reading) (r : Reading) (t : Text) → is_in (places_read (rs ++ r ∷ [])) t ≡ (is_in (places_read rs) t || bytes_eq r.place t)
one_more_place rs r t = ap (λ ts. is_in ts t) (map-append (λ (q : Reading). q.place) rs (r ∷ [])) ∙ one_more_in (places_read rs) r.place t

one_more_member : (rs : List Reading) (r : Reading) (t : Text) → is_in (member_places (rs ++ r ∷ [])) t ≡ (is_in (member_places rs) t || (is_member r.content && bytes_eq r.place t))
one_more_member rs r t = ap (λ qs. is_in (places_read qs) t) (filter-append (λ (q : Reading). is_member q.content) rs (r ∷ [])) ∙ go (is_member r.content)
  where
    go : (b : Bool) → is_in (places_read (filter (λ (q : Reading). is_member q.content) rs ++ cond b (r ∷ []) [])) t ≡ (is_in (member_places rs) t || (b && bytes_eq r.place t))
    go true = one_more_place (filter (λ (q : Reading). is_member q.content) rs) r t
    go false = ap (λ qs. is_in (places_read qs) t) (append-nil _) ∙ sym (or-false _)

module _ (base : Base) (first : List Text) where
  -- so far: what was read and taken in, and what is read of the places that wait
  pub record Walking (walk : Walk) (old now : Audit) : Type 0 where
    pub readings : List Reading
    pub takes : Takes (gain_of_all base readings) old now
    pub seen : (t : Text) → contains_text walk.seen t ≡ is_in (places_read readings) t
    pub members : (t : Text) → contains_text walk.members t ≡ is_in (member_places readings) t
    pub goes : (all : List Reading) → Reads base first (map string_bytes walk.waiting.items) readings all → Reads base first first [] all

  pub walking_begun : (walk : Walk) (a : Audit) → map string_bytes walk.waiting.items ≡ first → ((t : Text) → contains_text walk.seen t ≡ false)
      → ((t : Text) → contains_text walk.members t ≡ false) → Walking walk a a
  walking_begun walk a waiting seen members = record {
    readings = [];
    takes = takes_nothing a;
    seen = seen;
    members = members;
    goes = λ all r. subst (λ (ws : List Text). Reads base first ws [] all) waiting r;
  }

  -- the next place was popped, and visited
  walked : (place : Text) (left : Vec (String Global) Global) (walk after : Walk) (old now new : Audit) → map string_bytes walk.waiting.items ≡ map string_bytes left.items ++ place ∷ []
      → Visits base (is_excluded base place) (is_in first place) place (record walk { waiting = left }) after now new → Walking walk old now → Walking after old new
  walked place left walk after old now new popped (inl past) w =
      subst (λ (x : Walk). Walking x old new) (sym past.1.0) (subst (λ (x : Audit). Walking (record walk { waiting = left }) old x) (sym past.1.1) (record {
        readings = w.readings;
        takes = w.takes;
        seen = w.seen;
        members = w.members;
        goes = λ all r. w.goes all (subst (λ (ws : List Text). Reads base first ws w.readings all) (sym popped)
            (passed place (map string_bytes left.items) w.readings all (ap (λ b. b || is_excluded base place) (sym (w.seen place)) ∙ past.0) r));
      }))
  walked place left walk after old now new popped (inr at) w =
      let r : Reading = record { place = place; content = at.content } in
      record {
        readings = w.readings ++ r ∷ [];
        takes = subst (λ (g : Gain). Takes g old new) (one_more_gain base w.readings r) (takes_both _ _ old now new w.takes at.takes);
        seen = λ t. at.seen t ∙ ap (λ b. b || bytes_eq place t) (w.seen t) ∙ sym (one_more_place w.readings r t);
        members = λ t. at.members t ∙ ap (λ b. b || (is_member at.content && bytes_eq place t)) (w.members t) ∙ sym (one_more_member w.readings r t);
        goes = λ all rest. w.goes all (subst (λ (ws : List Text). Reads base first ws w.readings all) (sym popped)
            (looked place at.content (map string_bytes left.items) w.readings all (ap (λ b. b || is_excluded base place) (sym (w.seen place)) ∙ at.fresh) at.is
            (subst (λ (ws : List Text). Reads base first ws (w.readings ++ r ∷ []) all) at.waiting rest)));
      }

  -- nothing is waiting
  pub walking_ends : (walk : Walk) (old now : Audit) → map string_bytes walk.waiting.items ≡ [] → Walking walk old now → Walks base first (contains_text walk.members) old now
  walking_ends walk old now none w = record {
    readings = w.readings;
    read = w.goes w.readings (subst (λ (ws : List Text). Reads base first ws w.readings w.readings) (sym none) (ended w.readings));
    takes = w.takes;
    are = w.members;
  }

  -- the same of what was popped and asked
  pub walking_on : (x : String Global) (excluded listed : Bool) (asked : Text) (left : Vec (String Global) Global) (walk after : Walk) (old now new : Audit)
      → walk.waiting.items ≡ left.items ++ x ∷ [] → excluded ≡ is_excluded base (string_bytes x) → listed ≡ is_in first (string_bytes x) → asked ≡ string_bytes x
      → Visits base excluded listed asked (record walk { waiting = left }) after now new → Walking walk old now → Walking after old new
  walking_on x excluded listed asked left walk after old now new popped out flag same visits w =
      walked (string_bytes x) left walk after old now new (ap (map string_bytes) popped ∙ map-append string_bytes left.items (x ∷ []))
      (subst (λ (b : Bool). Visits base b (is_in first (string_bytes x)) (string_bytes x) (record walk { waiting = left }) after now new) out
      (subst (λ (b : Bool). Visits base excluded b (string_bytes x) (record walk { waiting = left }) after now new) flag
      (subst (λ (t : Text). Visits base excluded listed t (record walk { waiting = left }) after now new) same visits))) w

-- nothing was there to be popped
pub none_left : (items left : List (String Global)) (o : Option (String Global)) (n m : ℕ) → items ≡ left ++ option_to_list o → left ≡ take (n - 1) items
    → MatchOption o ((n ≡ 0) × (m ≡ 0)) (λ _. m + 1 ≡ n) → ((x : String Global) → o ≡ Some x → ⊥) → map string_bytes items ≡ []
none_left items left None n m whole rest h never = ap (map string_bytes) (whole ∙ ap (λ xs. xs ++ []) (rest ∙ ap (λ k. take (k - 1) items) h.0))
none_left items left (Some x) n m whole rest h never = absurd (never x refl)
