-- Fields that are copied or filled one after the other: what all of them tell at the end, in words that name none.
use Rattle.std.proofs.Common.{◌≡◌, Bool, true, false, Result, Ok, Err, refl, inl, inr}
use Rattle.std.specs.Prelude.{MatchResult, IfOk}
use Rattle.cargo_toml_parts.specs.Copies.{Copies, Finishes}

-- where none was refused in the end, none was before, and each copy holds the same
pub steady : (a b : Bool) (same sure : Type 0) → Copies a b same sure → b ≡ false → a ≡ false
steady a false same sure (before, x) after = before
steady a true same sure h after = absurd cc

pub copied : (a b : Bool) (same sure : Type 0) → Copies a b same sure → b ≡ false → same
copied a false same sure (before, x) after = x
copied a true same sure h after = absurd cc

-- a copy that is sure is not refused
pub surely : (a b : Bool) (same sure : Type 0) → Copies a b same sure → a ≡ false → sure → b ≡ false
surely a false same sure h before is = refl
surely false true same sure (inl before) _ is = absurd cc
surely false true same sure (inr (_, not)) _ is = absurd (not is)
surely true b same sure h before is = absurd cc

-- the answer, where it is told when no copy is refused
pub ends : {X E : Type 0} (a b : Bool) (P : X → Type 0) (sure : Type 0) (x : X) (r : Result X E) → a ≡ false → Finishes b x r → (b ≡ false → P x) → (sure → b ≡ false) → MatchResult r P (λ _. ¬ sure)
ends a b P sure x (Ok y) none (after, is) holds steady = rw is (holds after)
ends a b P sure x (Err e) none refused holds steady = λ is. absurd (cc (steady is))

-- and where it is told of none
pub ends_if_not : {X E : Type 0} (a b : Bool) (P : X → Type 0) (x : X) (r : Result X E) → a ≡ false → Finishes b x r → (b ≡ false → P x) → MatchResult r P (λ _. ¬ ⊥)
ends_if_not a b P x r none end holds = ends a b P ⊥ x r none end holds (λ never. absurd never)

-- the answer of a filling, which tells nothing of a refusal
pub ends_ok : {X E : Type 0} (b : Bool) (P : X → Type 0) (x : X) (r : Result X E) → Finishes b x r → (b ≡ false → P x) → IfOk r P
ends_ok b P x (Ok y) (after, is) holds = rw is (holds after)
ends_ok b P x (Err e) end holds = tt
