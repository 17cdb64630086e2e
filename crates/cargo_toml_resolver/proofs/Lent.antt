-- Facts of what is lent and of what is resolved beside it, as facts of both together.
use Rattle.std.proofs.Common.{◌≡◌, ℕ, T, is_ok, Option, Some, Result, Ok, Err, IfOk, IfErr, IfSome, IsSome, OnErr, OnOk, refl, sym, ap, ◌∙◌, subst, inl, inr}
use Rattle.std.specs.{Prelude.⊤, Prelude.is_some, Prelude.true, Borrow.follows_so}
use seplogic.Ra.Ura.{Ura}
use mathlib.Core.Option.{none}
use base.{Logic.ent, Logic.ex_i, Logic.ex_e, Fml.GName}
use types.Logic.{Logic, sem}
use denote.{Follow.follows_by, Follow.such_by, RattleType.RattleType, Ref.Bor}
use Rattle.cargo_toml_parts.specs.declared.error.Error.{Error, Memory}
use Rattle.cargo_toml_discovery.specs.{Names.Name, Told.Told}
use Rattle.cargo_toml_manifest.specs.{declared.manifest.Manifest.Manifest, Choosing.Handed, Choosing.MayFind, Choosing.RootsTold, Completed.IsCompleted, Completing.Outcome, Completing.gives, Completing.refuses, Completing.no_workspace}
use Rattle.cargo_toml_manifest.specs.{Completing.untold, Completing.Meets, Completing.complete, Manifests.ManifestMeaning, Manifests.held}
use Rattle.cargo_toml_manifest.proofs.Meeting.{given_again, refused_again}
use Rattle.cargo_toml_resolve.specs.Filter.{Asked}
use Rattle.cargo_toml_features.specs.{declared.features.Features.Features, FirstTarget.HaveTargets, Reached.IsKeyed, Views.answer_of}
use Rattle.cargo_toml_resolver.specs.{Lent.with_lent, Lent.IsLeftAfter, Lent.IsResolvedAfter, Parsed.AreBinsComplete, Parsed.IsHiding, Parsed.IsParsed, Parsed.IsParsedBy, Parsed.IsResolvedFor}

-- where there is a success, `Memory` may still be the answer
memory_after : {T U A : Type 0} (f : T → A) (g : U → A) (o : Outcome A) (t : T) (e : Error) → e ≡ Memory → Meets f o (Ok t) → Meets g o (Err e)
memory_after f g (gives x) t e memory h = memory
memory_after f g (refuses faults) t e memory h = absurd h
memory_after f g (no_workspace path) t e memory h = absurd h
memory_after f g untold t e memory h = tt

pub is_answered : {X Y : Type 0} (x : X) (r : Result Y Error) → IsSome (with_lent (Some x) (Some r))
is_answered x (Ok y) = refl
is_answered x (Err e) = refl

pub wrapped_with : {X Y : Type 0} (why : Error → Type 0) (x : X) (r : Result Y Error) → ((e : Error) → e ≡ Memory → why e) →
    IfErr r (λ e. e ≡ Memory) → IfSome (with_lent (Some x) (Some r)) (λ a. IfErr a why)
wrapped_with why x (Ok y) memory refused = tt
wrapped_with why x (Err e) memory refused = memory e refused

-- five facts of what is resolved are one
pub resolved_for : {F S H M : Type 0} (limit : ℕ) (m : ManifestMeaning M) (g : Asked F) (filter : Option (Bor F)) (r : Result (Features S H) Error)
    → IfOk r (λ a. IsParsedBy limit m g filter (answer_of a)) → IfOk r (λ a. IsHiding (IsParsed limit m (λ _. true)) (answer_of a))
    → IfOk r (λ a. AreBinsComplete limit m (λ n. is_some ((answer_of a).redirects n)) (answer_of a))
    → IfOk r (λ a. IsKeyed a.features) → IfOk r (λ a. HaveTargets a.dependencies) → IfOk r (IsResolvedFor limit m g filter)
resolved_for limit m g filter (Ok a) parsed hiding bins keyed targets =
    record { parsed = parsed; hiding = hiding; complete_bins = bins; keyed = keyed; targets = targets }
resolved_for limit m g filter (Err e) parsed hiding bins keyed targets = tt

-- what is answered where a manifest was completed, and its features were resolved
pub answered_with : {T M F S H : Type 0} (f : T → ManifestMeaning M) (outcome : Outcome (ManifestMeaning M)) (t : T) (limit : ℕ) (g : Asked F) (filter : Option (Bor F))
    (x : Bor (Manifest M)) (r : Result (Features S H) Error) → held x.now ≡ f t → Meets f outcome (Ok t) → IfErr r (λ e. e ≡ Memory)
    → IfOk r (IsResolvedFor limit (held x.now) g filter) → IfSome (with_lent (Some x) (Some r)) (IsResolvedAfter outcome limit g filter)
answered_with f outcome t limit g filter x (Ok y) same h refused features =
    record { completed = given_again f (λ p. held p.0.now) outcome t (x, y) same h; features = features }
answered_with f outcome t limit g filter x (Err e) same h refused features =
    record { completed = memory_after f (λ p. held p.0.now) outcome t e refused h; features = tt }

-- what is known of a lender's last value is known under a weaker relation too
pub rests_so : {M : Type 1} {𝓤 : Ura M} (𝓛 : Logic 𝓤) (R : RattleType) (γ : GName) (P Q : R.Denot → Type 0) → ((n : R.Denot) → P n → Q n)
    → ent 𝓤 (sem 𝓛 (follows_so R R γ none (λ _ _. ⊤) P)) (sem 𝓛 (follows_so R R γ none (λ _ _. ⊤) Q))
unfolding such_by
rests_so {𝓤 = 𝓤} 𝓛 R γ P Q weaker = ex_e 𝓤 _ (λ s. ex_i 𝓤 (λ (y : (p : (R.Denot → R.Denot) × R.Denot) × ((w : R.Denot) → ⊤) × Q p.1). sem 𝓛 (follows_by R.Denot R.Denot R.coded.code R.coded.code γ none y.0.0 y.0.1)) (s.0, s.1, weaker s.0.1 s.2))

-- what completing says, with the answer `d`, of a manifest that it leaves as `new`, where a refusal is such a one
pub record Completing {M : Type 0} (old new : Manifest M) (handed : Option Handed) (roots : RootsTold) (found : MayFind) (told : Name → Told) (why : Error → Type 0) (d : Result (Unit {0}) Error) : Type 0 where
  pub outcome : Meets (λ _. held new) (complete (held old) handed roots told) d
  pub unchanged : OnErr d (new ≡ old)
  pub completed : OnOk d (IsCompleted old handed roots found told new)
  pub wrapped : IfErr d why

-- what is said after it of the manifest, lent as `p`, and of both together, answered by `y`
pub record Answering {M Y : Type 0} (new : Manifest M) (d : Result (Unit {0}) Error) (p : Bor (Manifest M)) (y : Result (Bor (Manifest M) × Y) Error) : Type 0 where
  pub same : p.now ≡ new
  pub refused : IfErr d (λ e. y ≡ Err e)
  pub memory : OnOk d (IfErr y (λ e. e ≡ Memory))
  pub lent : IfOk y (λ q. q.0 ≡ p)

-- what holds of the completed manifest holds of the one that is lent
pub lent_after : {M Y : Type 0} (P : Manifest M → Type 0) (new : Manifest M) (d : Result (Unit {0}) Error) (p : Bor (Manifest M)) (y : Result (Bor (Manifest M) × Y) Error)
    → OnOk d (P new) → Answering new d p y → IfOk y (λ q. P q.0.now)
lent_after P new (Ok u) p (Ok q) holds a = subst P (sym (ap (λ r. r.now) a.lent ∙ a.same)) holds
lent_after P new (Err fault) p (Ok q) holds a = absurd (subst T (ap is_ok a.refused) tt)
lent_after P new d p (Err e) holds a = tt

module _ {M Y : Type 0} {why : Error → Type 0} (old new : Manifest M) (handed : Option Handed) (roots : RootsTold) (found : MayFind) (told : Name → Told) where
  pub left_after : (d : Result (Unit {0}) Error) (p : Bor (Manifest M)) (y : Result (Bor (Manifest M) × Y) Error) → Completing old new handed roots found told why d → Answering new d p y
      → (left : Manifest M) → left ≡ p.now → IsLeftAfter old handed roots found told y left
  left_after d p (Ok q) c a left is = is ∙ ap (λ r. r.now) (sym a.lent)
  left_after (Ok u) p (Err e) c a left is = inr (a.memory, subst (IsCompleted old handed roots found told) (sym (is ∙ a.same)) c.completed)
  left_after (Err fault) p (Err e) c a left is = inl (is ∙ a.same ∙ c.unchanged)

  pub outcome_after : (d : Result (Unit {0}) Error) (p : Bor (Manifest M)) (y : Result (Bor (Manifest M) × Y) Error) → Completing old new handed roots found told why d → Answering new d p y
      → Meets (λ q. held q.0.now) (complete (held old) handed roots told) y
  outcome_after (Ok u) p (Ok q) c a = given_again (λ (_ : Unit {0}). held new) (λ (q : Bor (Manifest M) × Y). held q.0.now) (complete (held old) handed roots told) tt q (ap (λ r. held r.now) a.lent ∙ ap held a.same) c.outcome
  outcome_after (Ok u) p (Err e) c a = memory_after (λ (_ : Unit {0}). held new) (λ (q : Bor (Manifest M) × Y). held q.0.now) (complete (held old) handed roots told) tt e a.memory c.outcome
  outcome_after (Err fault) p y c a = subst (Meets (λ (q : Bor (Manifest M) × Y). held q.0.now) (complete (held old) handed roots told)) (sym a.refused)
      (refused_again (λ (_ : Unit {0}). held new) (λ (q : Bor (Manifest M) × Y). held q.0.now) (complete (held old) handed roots told) fault c.outcome)

  pub wrapped_after : (d : Result (Unit {0}) Error) (p : Bor (Manifest M)) (y : Result (Bor (Manifest M) × Y) Error) → ((e : Error) → e ≡ Memory → why e)
      → Completing old new handed roots found told why d → Answering new d p y → IfErr y why
  wrapped_after (Ok u) p (Ok q) memory c a = tt
  wrapped_after (Ok u) p (Err e) memory c a = memory e a.memory
  wrapped_after (Err fault) p y memory c a = subst (λ r. IfErr r why) (sym a.refused) c.wrapped
