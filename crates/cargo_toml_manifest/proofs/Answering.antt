-- What is answered of a completion, by where the manifest inherits from, and what that says.
use Rattle.cargo_toml_manifest.proofs.Cited.{Answers, AnswersHint, AnswersRoot, Bool, Choice, Completion, Err, Error, Fault, GivenBy, Handed, IsAnsweredAt, IsAnsweredBy, IsCause, IsFaultOf, IsListed, IsOneOf, IsRefusal, IsRefusedAt, IsRefusedBy, List, ManifestMeaning, MayFind, MayTell, Meets, Memory, Name, NewParts, None, Ok, Option, Outcome, Result, RootsTold, Seen, Shared, Some, Tells, Told, ToldRoot, ap, choice, complete, complete_by, false, fault_of, faulty, filled}
use Rattle.cargo_toml_manifest.proofs.Cited.{found_around, from, gives, hint_of, inherited_by, inl, inr, installed, lost, manifest_meaning, map, needs, no_root, no_workspace, open_root, option_map, own_choice, path_of, refl, refuses, root, seen, seen_at, shared, string_bytes, subst, sym, then_found, told_choice, true, unclear, unclear_root, untold, view, with_completion, with_found, wrap, ℕ, ◌∙◌, ◌≡◌, ◌⊎◌}
use Rattle.cargo_toml_manifest.proofs.Meeting.{Found, found_answer, found_at, found_choice, hint_alone, own_by_root}
use Rattle.cargo_toml_manifest.proofs.{FoundAround.one_of-wrapped, FoundAround.found_for-extends, Rooted.IsWrapped, Rooted.stays_memory, Rooted.told_with}

-- what is stated of the root leaves the choice open, or makes it as any answer does
open_choice : (o : Option Shared) (b : Bool) (t : ToldRoot) → (own_choice o b open_root ≡ unclear_root) ⊎ (own_choice o b t ≡ own_choice o b open_root)
open_choice (Some w) b t = inr refl
open_choice None true t = inl refl
open_choice None false t = inr refl

-- a fault in place of names is one of those that are named
met_listing : {T A : Type 0} (f : T → A) (path : Option (List ℕ)) (s : Seen A) (fault : Fault) (e : Error) → MayTell s fault → fault_of e ≡ wrap path fault →
    Meets f (seen_at path s) (Err e)
met_listing f path (seen x) fault e tells same = absurd tells
met_listing f path (faulty faults) fault e tells same =
    inr (subst (λ (x : Fault). IsOneOf x (map (wrap path) faults)) (sym same) (one_of-wrapped path fault faults tells))
met_listing f path unclear fault e tells same = tt

-- `Memory` meets each outcome
meets_memory : {T A : Type 0} (f : T → A) (o : Outcome A) (e : Error) → e ≡ Memory → Meets f o (Err e)
meets_memory f (gives x) e h = h
meets_memory f (refuses faults) e h = inl h
meets_memory f (no_workspace path) e h = inl h
meets_memory f untold e h = tt

module _ {M : Type 0} (m : ManifestMeaning M) (told : Name → Told) where
  -- where open paths have answers, an outcome that is stated stays
  then_extends : (path : Option (List ℕ)) (answers : Answers) (r : Result (ManifestMeaning M) Fault) →
      (then_found path told r ≡ untold) ⊎ (then_found path (filled told answers) r ≡ then_found path told r)
  then_extends path answers (Ok k) = elim (found_for-extends k k.«package» told answers)
      [ inl hidden ↦ inl (ap (seen_at path) hidden) | inr same ↦ inr (ap (seen_at path) same) ]
  then_extends path answers (Err fault) = inr refl

  extends : (answers : Answers) (c : Choice) → (complete_by m c told ≡ untold) ⊎ (complete_by m c (filled told answers) ≡ complete_by m c told)
  extends answers (from w) = then_extends (path_of w) answers (inherited_by w m)
  extends answers lost = inr refl
  extends answers unclear_root = inl refl

  module _ (handed : Option Handed) (stated : RootsTold) (found : MayFind) where
    -- what holds by some answer holds by what is stated
    as_stated : (o : Option Handed) (answer : ToldRoot) → AnswersHint (stated (hint_of m)) (found (hint_of m)) answer →
        (choice m o stated ≡ unclear_root) ⊎ (choice m o (λ _. answer) ≡ choice m o stated)
    as_stated (Some h) answer known = inr refl
    as_stated None answer (inl same) = inr (ap (own_choice (option_map shared m.workspace) (needs m)) (sym same))
    as_stated None answer (inr (is, there)) =
        let own = own_choice (option_map shared m.workspace) (needs m) in
        subst (λ (t : ToldRoot). (own t ≡ unclear_root) ⊎ (own answer ≡ own t)) (sym is) (open_choice (option_map shared m.workspace) (needs m) answer)

    met_by : {T : Type 0} (f : T → ManifestMeaning M) (r : Result T Error) (answer : ToldRoot) → AnswersHint (stated (hint_of m)) (found (hint_of m)) answer →
        Meets f (complete_by m (choice m handed (λ _. answer)) told) r → Meets f (complete m handed stated told) r
    met_by f r answer known h = elim (as_stated handed answer known) [
      | inl hidden ↦ subst (λ (c : Choice). Meets f (complete_by m c told) r) (sym hidden) tt
      | inr same ↦ subst (λ (c : Choice). Meets f (complete_by m c told) r) same h
    ]

    pub met_given : {T : Type 0} (f : T → ManifestMeaning M) (t : T) → GivenBy m handed stated found told (f t) → Meets f (complete m handed stated told) (Ok t)
    met_given f t (answer, known, (answers, is)) = met_by f (Ok t) answer known (elim (extends answers (choice m handed (λ _. answer))) [
      | inl hidden ↦ subst (λ (o : Outcome (ManifestMeaning M)). Meets f o (Ok t)) (sym hidden) tt
      | inr same ↦ subst (λ (o : Outcome (ManifestMeaning M)). Meets f o (Ok t)) (sym is ∙ same) refl
    ])

module _ {M : Type 0} (m : ManifestMeaning M) (told : Name → Told) (roots : Option (List ℕ) → Fault → Type 0) (names : List ℕ → Fault → Type 0) where
  -- from this workspace: what is inherited is refused
  module _ (w : Option Handed) where
    pub parts_refused : (own e : Error) → (own ≡ Memory) ⊎ (inherited_by w m ≡ Err (fault_of own)) → IsWrapped (path_of w) own e → IsAnsweredAt m told roots names (from w) (Err e)
    parts_refused own e h wrapped = record {
      given = tt;
      refused = told_with (IsFaultOf m told roots names w) (path_of w) own e (elim h [ inl memory ↦ inl memory | inr is ↦ inr (inl is) ]) wrapped;
    }

    -- or it is this
    module _ (parts : NewParts) (is : inherited_by w m ≡ Ok (installed m parts)) where
      -- what is found is refused
      pub listing_refused : (own e : Error) → Tells (found_around (installed m parts) told) own → (own ≡ Memory) ⊎ IsListed names (fault_of own) →
          IsWrapped (path_of w) own e → IsAnsweredAt m told roots names (from w) (Err e)
      listing_refused own e tells listed wrapped = record {
        given = tt;
        refused = told_with (IsFaultOf m told roots names w) (path_of w) own e (both tells listed) wrapped;
      }
        where
          both : Tells (found_around (installed m parts) told) own → (own ≡ Memory) ⊎ IsListed names (fault_of own) → (own ≡ Memory) ⊎ IsFaultOf m told roots names w (fault_of own)
          both (inl memory) listed = inl memory
          both (inr tells) (inl memory) = inl memory
          both (inr tells) (inr listed) = inr (inr (installed m parts, (is, (tells, listed))))

      -- or all is made
      pub made : (new : Completion) → new.parts ≡ parts →
          (answers : Answers) × (found_around (installed m parts) (filled told answers) ≡ seen (with_found (installed m parts) new.found)) →
          IsAnsweredAt m told roots names (from w) (Ok new)
      made new same (answers, found) =
          let put : with_completion m new ≡ with_found (installed m parts) new.found = ap (λ (p : NewParts). with_found (installed m p) new.found) same in
          record {
            given = (answers, ap (then_found (path_of w) (filled told answers)) is ∙ ap (seen_at (path_of w)) found ∙ ap (λ (n : ManifestMeaning M). gives n) (sym put));
            refused = tt;
          }

  -- a refusal says what may be said of it
  plain : (c : Choice) (e : Error) → IsRefusal m told roots names c e → IsRefusedAt m roots names c e
  plain (from w) e (fault, (inl is, same)) = (fault, (subst (λ (r : Result (ManifestMeaning M) Fault). IsCause r names fault) (sym is) refl, same))
  plain (from w) e (fault, (inr (k, (is, (tells, listed))), same)) =
      (fault, (subst (λ (r : Result (ManifestMeaning M) Fault). IsCause r names fault) (sym is) listed, same))
  plain lost e h = h
  plain unclear_root e h = h

  -- and the outcome names it
  met_at : {T : Type 0} (f : T → ManifestMeaning M) (c : Choice) (e : Error) → (e ≡ Memory) ⊎ IsRefusal m told roots names c e → Meets f (complete_by m c told) (Err e)
  met_at f c e (inl memory) = meets_memory f (complete_by m c told) e memory
  met_at f (from w) e (inr (fault, (inl is, same))) =
      subst (λ (r : Result (ManifestMeaning M) Fault). Meets f (then_found (path_of w) told r) (Err e)) (sym is) (inr (inl same))
  met_at f (from w) e (inr (fault, (inr (k, (is, (tells, listed))), same))) =
      subst (λ (r : Result (ManifestMeaning M) Fault). Meets f (then_found (path_of w) told r) (Err e)) (sym is)
      (met_listing f (path_of w) (found_around k told) fault e tells same)
  met_at f lost e (inr (fault, (cause, same))) = inr (fault, same)
  met_at f unclear_root e (inr h) = absurd h

  module _ (handed : Option Handed) (stated : RootsTold) (found : MayFind) where
    -- by what is stated of roots alone
    pub answered_as : (c : Choice) (r : Result Completion Error) → choice m handed stated ≡ c → IsAnsweredAt m told roots names c r → IsAnsweredBy m told roots names handed stated found r
    answered_as c r same h = record {
      answer = stated (hint_of m);
      known = inl refl;
      answered = subst (λ (x : Choice). IsAnsweredAt m told roots names x r) (sym (hint_alone m handed stated ∙ same)) h;
    }

    pub met_refused : {T : Type 0} (f : T → ManifestMeaning M) (e : Error) → IsAnsweredBy m told roots names handed stated found (Err e) → Meets f (complete m handed stated told) (Err e)
    met_refused f e h = met_by m told handed stated found f (Err e) h.answer h.known (met_at f (choice m handed (λ _. h.answer)) e h.answered.refused)

    pub refused_by : (e : Error) → IsAnsweredBy m told roots names handed stated found (Err e) → IsRefusedBy m handed stated found roots names e
    refused_by e h = elim h.answered.refused
        [ inl memory ↦ inl memory | inr refusal ↦ inr (h.answer, (h.known, plain (choice m handed (λ _. h.answer)) e refusal)) ]

  -- by the root of its hint, where it has no table and needs one
  module _ (stated : RootsTold) (found : MayFind) (none : m.workspace ≡ None) (needed : needs m ≡ true) where
    by_root : (t : ToldRoot) → choice m None (λ _. t) ≡ told_choice t
    by_root t = own_by_root m.workspace (needs m) t t none needed refl

    pub root_answered : (x : Found) (r : Result Completion Error) → AnswersRoot (stated (hint_of m)) (Ok x) → found (hint_of m) (manifest_meaning view x.0) (string_bytes x.1) →
        IsAnsweredAt m told roots names (found_at x) r → IsAnsweredBy m told roots names None stated found r
    root_answered x r a there h =
        let t : ToldRoot = root (manifest_meaning view x.0) (string_bytes x.1) in
        record {
          answer = t;
          known = found_answer (found (hint_of m)) (stated (hint_of m)) x a there;
          answered = subst (λ (c : Choice). IsAnsweredAt m told roots names c r) (sym (by_root t ∙ found_choice x)) h;
        }

    -- the refusal where there is none
    module _ (own e : Error) (h : (own ≡ Memory) ⊎ roots (hint_of m) (fault_of own)) (wrapped : IsWrapped (hint_of m) own e) where
      at_none : IsAnsweredAt m told roots names (choice m None (λ _. no_root)) (Err e)
      at_none = subst (λ (c : Choice). IsAnsweredAt m told roots names c (Err e)) (sym (by_root no_root))
          (record { given = tt; refused = told_with (roots (hint_of m)) (hint_of m) own e h wrapped })

      lost_for : (t : ToldRoot) → AnswersRoot t (Err own) → stated (hint_of m) ≡ t → IsAnsweredBy m told roots names None stated found (Err e)
      lost_for (root n path) a is = record {
        answer = stated (hint_of m);
        known = inl refl;
        answered = record { given = tt; refused = inl (stays_memory (hint_of m) own e a wrapped) };
      }
      lost_for no_root a is = record { answer = no_root; known = inl is; answered = at_none }
      lost_for open_root a is = record { answer = no_root; known = inr (is, tt); answered = at_none }

      pub root_lost : AnswersRoot (stated (hint_of m)) (Err own) → IsAnsweredBy m told roots names None stated found (Err e)
      root_lost a = lost_for (stated (hint_of m)) a refl
