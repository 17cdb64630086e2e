-- Laws of the orders of kinds and of targets, and of the default kind.
use Rattle.std.specs.{Prelude.◌≡◌, Prelude.◌↔◌, Prelude.Bool, Prelude.IsTrue, Ordering.nat_cmp}
use Rattle.std.specs.{Ordering.is_eq, declared.cmp.Ordering.Ordering}
use Rattle.cargo_toml_features.specs.declared.features.Kind.{Kind}
use Rattle.cargo_toml_features.specs.declared.features.Kind.TheVariants.{Normal}
use Rattle.cargo_toml_features.specs.{declared.features.TargetKey.TargetKey, Recorded.rank}
use Rattle.cargo_toml_features.specs.{Recorded.target_cmp, Views.target_in}

-- kinds compare as their ranks do
abbrev pub IsKindOrder : (Kind → Kind → Ordering) → Type 0
IsKindOrder cmp = (a b : Kind) → cmp a b ≡ nat_cmp (rank a) (rank b)

-- a kind is equal to itself and to no other
abbrev pub IsKindEquality : (Kind → Kind → Bool) → Type 0
IsKindEquality eq = (a b : Kind) → IsTrue (eq a b) ↔ (a ≡ b)

-- the default is `Normal` and no other
abbrev pub IsDefaultKind : (Kind → Type 0) → Type 0
IsDefaultKind is_default = (k : Kind) → is_default k → k ≡ Normal

-- keys compare by kind, then no target before a named one
abbrev pub IsTargetOrder : (TargetKey → TargetKey → Ordering) → Type 0
IsTargetOrder cmp = (a b : TargetKey) → cmp a b ≡ target_cmp (target_in a) (target_in b)

-- keys are equal where they hold the same kind and the same text, or none
abbrev pub IsTargetEquality : (TargetKey → TargetKey → Bool) → Type 0
IsTargetEquality eq = (a b : TargetKey) → IsTrue (eq a b) ↔ (target_in a ≡ target_in b)

-- the order says that two are equal exactly where equality does
abbrev pub EqualAlike : {X : Type 0} → (X → X → Ordering) → (X → X → Bool) → Type 0
EqualAlike {X} cmp eq = (a b : X) → eq a b ≡ is_eq (cmp a b)
