-- What is stated of the folders around a package, and what an answer has to be by that.
use Rattle.std.specs.Prelude.{◌≡◌, ◌⊎◌, ℕ, List, String, Result, MatchResult, IsErrAnd, IfErr}
use Rattle.std.specs.{HashSet.HashSet, HashSet.contains_text, List.list_any, Str.bytes_eq}
use Rattle.std.specs.declared.{alloc.Global.Global, io.ErrorKind.TheVariants.NotFound}
use Rattle.cargo_toml_parts.specs.declared.error.Error.{Error, Memory}
use Rattle.cargo_toml_parts.specs.FaultValues.{Fault, fault_of, io}
use Rattle.cargo_toml_discovery.specs.Told.{Told, names, absent, denied, open_path}

-- the set has just these texts
abbrev pub HasTexts : {S : Type 0} → HashSet (String Global) S → List (List ℕ) → Type 0
HasTexts set texts = (text : List ℕ) → contains_text set text ≡ list_any (bytes_eq text) texts

-- the answer to the question for the names in a folder
abbrev pub AnswersNames : {S : Type 0} → Told → Result (HashSet (String Global) S) Error → Type 0
AnswersNames (names texts) result = MatchResult result (λ set. HasTexts set texts) (λ e. e ≡ Memory)
AnswersNames absent result = IsErrAnd result (λ e. (e ≡ Memory) ⊎ (fault_of e ≡ io NotFound))
AnswersNames (denied fault) result = IsErrAnd result (λ e. (e ≡ Memory) ⊎ (fault_of e ≡ fault))
AnswersNames open_path result = Unit {0}

-- a refusal is `Memory`, or one of these faults
abbrev pub RefusesBy : {T : Type 0} → (Fault → Type 0) → Result T Error → Type 0
RefusesBy may result = IfErr result (λ e. (e ≡ Memory) ⊎ may (fault_of e))

-- the fault may stand in place of the names at some path
abbrev pub IsListed : (List ℕ → Fault → Type 0) → Fault → Type 0
IsListed may fault = (path : List ℕ) × may path fault
