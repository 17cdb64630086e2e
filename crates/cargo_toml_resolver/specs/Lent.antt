-- What is left of a manifest that is lent on, and how a lent manifest and what was put into the
-- slot make one answer.
use Rattle.std.specs.Prelude.{◌≡◌, ◌⊎◌, ⊤, ℕ, Option, Some, None, Result, Ok, Err, IfOk}
use Rattle.std.specs.Borrow.{Fml, MutBor, follows_so}
use mathlib.Core.Option.{none}
use denote.RattleType.{RattleType}
use denote.Ref.{Bor}
use Rattle.cargo_toml_parts.specs.declared.error.Error.{Error, Memory}
use Rattle.cargo_toml_discovery.specs.Names.{Name}
use Rattle.cargo_toml_discovery.specs.Told.{Told}
use Rattle.cargo_toml_manifest.specs.contracts.manifest.Manifest.{the_row}
use Rattle.cargo_toml_manifest.specs.declared.manifest.Manifest.{Manifest}
use Rattle.cargo_toml_manifest.specs.Choosing.{Handed, MayFind, RootsTold}
use Rattle.cargo_toml_manifest.specs.Completed.{IsCompleted}
use Rattle.cargo_toml_manifest.specs.Completing.{Meets, Outcome}
use Rattle.cargo_toml_manifest.specs.Manifests.{ManifestMeaning, held}
use Rattle.cargo_toml_features.specs.declared.features.Features.{Features}
use Rattle.cargo_toml_resolve.specs.Filter.{Asked}
use Rattle.cargo_toml_resolver.specs.Parsed.{IsResolvedFor}

-- where nothing was lent the manifest is as it was, and else as it was lent
abbrev pub IsLeft : {M : Type 0} → Manifest M → Option (Bor (Manifest M)) → Manifest M → Type 0
IsLeft old None new = new ≡ old
IsLeft old (Some lent) new = new ≡ lent.now

-- so the manifest is left, once what was lent is let go
abbrev pub IsLentOn : (M : RattleType) → MutBor (Manifest M.Denot)
    → Option (Bor (Manifest M.Denot)) → Fml
IsLentOn M manifest lent =
    follows_so (the_row M) (the_row M) manifest.ghost_name none (λ _ _. ⊤)
    (IsLeft manifest.now lent)

-- what is lent, with what was put beside it; a fault stands for both
abbrev pub with_lent : {X Y : Type 0} → Option X → Option (Result Y Error)
    → Option (Result (X × Y) Error)
with_lent lent None = None
with_lent lent (Some (Err e)) = Some (Err e)
with_lent None (Some (Ok y)) = None
with_lent (Some x) (Some (Ok y)) = Some (Ok (x, y))

-- what is lent for good is left as it is lent
abbrev pub IsLentAs : (M : RattleType) → MutBor (Manifest M.Denot) → Bor (Manifest M.Denot) → Fml
IsLentAs M manifest lent =
    follows_so (the_row M) (the_row M) manifest.ghost_name none (λ _ _. ⊤) (λ new. new ≡ lent.now)

-- completed by a workspace that is handed in, if any, by what is stated of roots and of folders,
-- and by the roots that may be found
module _ {M : Type 0} (old : Manifest M) (handed : Option Handed) (roots : RootsTold)
    (found : MayFind) (told : Name → Told) where
  -- after a success the manifest is as it is lent; after a refusal it is as it was or, only where
  -- that is out of memory, completed
  abbrev pub IsLeftAfter : {Y : Type 0} → Result (Bor (Manifest M) × Y) Error → Manifest M → Type 0
  IsLeftAfter (Ok p) new = new ≡ p.0.now
  IsLeftAfter (Err e) new =
      (new ≡ old) ⊎ ((e ≡ Memory) × IsCompleted old handed roots found told new)

-- so the manifest is left, once what was lent is let go
abbrev pub IsLentAfter : (M : RattleType) {Y : Type 0} → MutBor (Manifest M.Denot) → Option Handed
    → RootsTold → MayFind → (Name → Told) → Result (Bor (Manifest M.Denot) × Y) Error → Fml
IsLentAfter M manifest handed roots found told answer =
    follows_so (the_row M) (the_row M) manifest.ghost_name none (λ _ _. ⊤)
    (IsLeftAfter manifest.now handed roots found told answer)

-- what comes of a manifest that is completed and then resolved: completing has this outcome, and
-- the features are those of the manifest that is lent
pub record IsResolvedAfter {M F S H : Type 0} (outcome : Outcome (ManifestMeaning M)) (limit : ℕ)
    (g : Asked F) (filter : Option (Bor F)) (r : Result (Bor (Manifest M) × Features S H) Error)
    : Type 0 where
  pub completed : Meets (λ p. held p.0.now) outcome r
  pub features : IfOk r (λ p. IsResolvedFor limit (held p.0.now) g filter p.1)
