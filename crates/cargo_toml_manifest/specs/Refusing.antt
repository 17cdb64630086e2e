-- Which faults an implementor of `AbstractFilesystem` may give, and by which of these completion is
-- refused.
use Rattle.std.specs.Prelude.{◌≡◌, ◌⊎◌, ℕ, List, Bool, true, false, Option, Result}
use Rattle.std.specs.Prelude.{Ok, Err, MatchResult, String, string_bytes, Vec}
use Rattle.std.specs.declared.{alloc.Global.Global, io.ErrorKind.TheVariants.Unsupported}
use Rattle.toml.specs.Data.{Data}
use Rattle.cargo_toml_parts.specs.declared.error.Error.{Error, Memory}
use Rattle.cargo_toml_parts.specs.FaultValues.{Fault, fault_of, io}
use Rattle.cargo_toml_parts.specs.Wrapping.{wrap}
use Rattle.cargo_toml_discovery.specs.Folders.{IsListed}
use Rattle.cargo_toml_manifest.specs.Choosing.{AnswersHint, Choice, Handed, MayFind, RootsTold}
use Rattle.cargo_toml_manifest.specs.Choosing.{choice, from, hint_of, lost, unclear_root}
use Rattle.cargo_toml_manifest.specs.Completing.{inherited_by, path_of}
use Rattle.cargo_toml_manifest.specs.Manifests.{ManifestMeaning}
use Rattle.cargo_toml_manifest.specs.Roots.{IsNoRoot}
use Rattle.cargo_toml_manifest.specs.Told.{IsRootIn, ToldRoot}

-- the fault may stand in place of the root of this hint: it is one that the implementor may give
-- or, where no root is ever found, `Unsupported`, reported with the hint
abbrev pub MayLose : Bool → (Option (List ℕ) → Fault → Type 0) → Option (List ℕ) → Fault → Type 0
MayLose true may hint fault = may hint fault
MayLose false may hint fault = may hint fault ⊎ (fault ≡ wrap hint (io Unsupported))

-- the bytes of a root, or a refusal. A fault of bytes that are no root may stand in place of the
-- root. So may a refusal, reported with the hint; where no root is ever read, the refusal may also
-- be `Unsupported`, without a path
abbrev pub ReadsBy : Bool → (Option (List ℕ) → Fault → Type 0) → Option (List ℕ)
    → Result (Vec ℕ Global × String Global) Error → Type 0
ReadsBy reads may hint result =
    MatchResult result
    (λ r. (e : Error) → IsNoRoot r.0.items (string_bytes r.1) e
    → (e ≡ Memory) ⊎ may hint (fault_of e))
    (λ e. (e ≡ Memory)
    ⊎ (may hint (wrap hint (fault_of e)) ⊎ ((reads ≡ false) × (fault_of e ≡ io Unsupported))))

-- a root that the bytes spell may be found, with this path
abbrev pub MayHold : (ManifestMeaning Data → List ℕ → Type 0) → List ℕ → List ℕ → Type 0
MayHold found bytes path = (m : ManifestMeaning Data) → IsRootIn bytes m → found m path

-- the cause of a refusal: the fault of what is inherited, and where that has none,
-- one in place of names
abbrev pub IsCause : {M : Type 0} → Result (ManifestMeaning M) Fault → (List ℕ → Fault → Type 0)
    → Fault → Type 0
IsCause (Ok m) names fault = IsListed names fault
IsCause (Err own) names fault = fault ≡ own

-- the error is a fault of such a cause, reported with this path
abbrev pub IsToldWith : Option (List ℕ) → (Fault → Type 0) → Error → Type 0
IsToldWith path cause e = (fault : Fault) × (cause fault × (fault_of e ≡ wrap path fault))

-- the refusal where this is chosen: the path is that of the workspace, or the hint
-- where there is no root
abbrev pub IsRefusedAt : {M : Type 0} → ManifestMeaning M → (Option (List ℕ) → Fault → Type 0)
    → (List ℕ → Fault → Type 0) → Choice → Error → Type 0
IsRefusedAt m roots names (from w) e = IsToldWith (path_of w) (IsCause (inherited_by w m) names) e
IsRefusedAt m roots names lost e = IsToldWith (hint_of m) (roots (hint_of m)) e
IsRefusedAt m roots names unclear_root e = ⊥

-- the refusal of completion: `Memory`, or one by some answer for the root
abbrev pub IsRefusedBy : {M : Type 0} → ManifestMeaning M → Option Handed → RootsTold → MayFind
    → (Option (List ℕ) → Fault → Type 0) → (List ℕ → Fault → Type 0) → Error → Type 0
IsRefusedBy m handed told found roots names e =
    (e ≡ Memory)
    ⊎ ((answer : ToldRoot)
    × (AnswersHint (told (hint_of m)) (found (hint_of m)) answer
    × IsRefusedAt m roots names (choice m handed (λ _. answer)) e))
