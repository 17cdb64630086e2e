-- What a proof by hand asks of the machine's values: each value of a type is one, of that type.
use Rattle.std.proofs.Common.{◌≡◌, ℕ, List, [], ◌∷◌, refl, subst}
use lib.Dec.{T}
use Prim.Native.Nat.{zero, suc}
use mir.{Syntax.Ty, Syntax.ty_unit, Syntax.Local, Syntax.local, Val.Val, Val.has_ty, Val.WT}
use seplogic.Ra.Ura.{Ura}
use types.Logic.{Logic}
use denote.{RattleType.RattleType, RattleType.RowLaws, Builtin.unit, Builtin.One, Laws.Is, Laws.Typed, Laws.Makes, Param.layout, Param.Laws.Laws, Param.Laws.of_field, Param.Shared.copy_shared, Ref.NamedLft, Struct.Field.shr_ref_field}
use denote.{Struct.Laws.shr_ref_laws, Struct.Laws.shr_ref_copy, Struct.Laws.makes, Signature.Slot, Signature.plain}
use Rattle.std.specs.contracts.alloc.Global as Global
use Rattle.std.proofs.alloc.Global.TheLaws as Global-laws

pub record Single (τ : Ty) (vs : List Val) : Type 0 where
  pub word : Val
  pub is : vs ≡ word ∷ []
  pub typed : T (has_ty τ word) × WT word

alone : (τ : Ty) (vs : List Val) → Typed (τ ∷ []) vs → Single τ vs
alone τ [] t = absurd t
alone τ (v ∷ []) t = record { word = v; is = refl; typed = t.0 }
alone τ (v ∷ w ∷ vs) t = absurd t.1

pub single : {M : Type 1} {𝓤 : Ura M} (𝓛 : Logic 𝓤) (R : RattleType) → Laws R → (x : R.Denot) (vs : List Val) → Is R x vs → Single (layout R) vs
single 𝓛 R L x vs has = alone (layout R) vs (subst (λ τs. Typed τs vs) L.one ((L.lawful 𝓛).typed x vs has))

-- the slot and the row of a parameter, by its place
abbrev pub slot_at : {n : ℕ} → ℕ → List (Slot n) → Slot n
slot_at i [] = plain (λ _. unit)
slot_at zero (s ∷ ss) = s
slot_at (suc i) (s ∷ ss) = slot_at i ss

abbrev pub row_at : ℕ → List RattleType → RattleType
row_at i [] = unit
row_at zero (R ∷ Rs) = R
row_at (suc i) (R ∷ Rs) = row_at i Rs

-- the laws of a `&` to a row
abbrev pub ref_laws : (n : NamedLft) (R : RattleType) (one : One R.mir) → RowLaws R → Laws (shr_ref_field n R one).row
ref_laws n R one l = of_field (shr_ref_field n R one) (shr_ref_laws n R one) refl (copy_shared (shr_ref_field n R one) (shr_ref_copy n R one l))

-- an allocator that owns nothing is had again
pub global_makes : {M : Type 1} {𝓤 : Ura M} (𝓛 : Logic 𝓤) → Makes 𝓛 Global.the_row (Is Global.the_row)
global_makes = makes Global.the_type Global-laws.the_plain

-- the type of a local, by its place
abbrev pub local_at : ℕ → List Local → Ty
local_at i [] = ty_unit
local_at zero (local τ h ∷ ls) = τ
local_at (suc i) (local τ h ∷ ls) = local_at i ls
