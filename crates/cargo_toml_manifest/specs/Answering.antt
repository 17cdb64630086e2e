-- What is answered of a completion that was made and is not yet put in.
use Rattle.std.specs.Prelude.{◌≡◌, ◌⊎◌, ℕ, List, Option, Result, Ok, Err, IfErr, IfOk}
use Rattle.cargo_toml_parts.specs.declared.error.Error.{Error, Memory}
use Rattle.cargo_toml_parts.specs.FaultValues.{Fault}
use Rattle.cargo_toml_discovery.specs.Answers.{Answers, filled}
use Rattle.cargo_toml_discovery.specs.Folders.{IsListed}
use Rattle.cargo_toml_discovery.specs.Names.{Name}
use Rattle.cargo_toml_discovery.specs.Seen.{MayTell}
use Rattle.cargo_toml_discovery.specs.Told.{Told}
use Rattle.cargo_toml_manifest.specs.Choosing.{AnswersHint, Choice, Handed, MayFind, RootsTold}
use Rattle.cargo_toml_manifest.specs.Choosing.{choice, from, hint_of, lost, unclear_root}
use Rattle.cargo_toml_manifest.specs.Completing.{complete_by, gives, inherited_by, path_of}
use Rattle.cargo_toml_manifest.specs.Finding.{found_around}
use Rattle.cargo_toml_manifest.specs.Installing.{with_completion}
use Rattle.cargo_toml_manifest.specs.Manifests.{ManifestMeaning}
use Rattle.cargo_toml_manifest.specs.Refusing.{IsToldWith}
use Rattle.cargo_toml_manifest.specs.Told.{ToldRoot}
use Rattle.cargo_toml_manifest.specs.declared.finding.Completion.{Completion}

-- the answer for a manifest by what is stated of folders, and by the faults that may stand in place
-- of a root and of names
module _ {M : Type 0} (m : ManifestMeaning M) (told : Name → Told)
    (roots : Option (List ℕ) → Fault → Type 0) (names : List ℕ → Fault → Type 0) where
  -- the fault is that of what is inherited or, where it becomes this manifest, one in place of
  -- names around that
  abbrev pub IsFaultOf : Option Handed → Fault → Type 0
  IsFaultOf w fault =
      (inherited_by w m ≡ Err fault)
      ⊎ ((k : ManifestMeaning M)
      × ((inherited_by w m ≡ Ok k)
      × (MayTell (found_around k told) fault × IsListed names fault)))

  -- the refusal where this is chosen
  abbrev pub IsRefusal : Choice → Error → Type 0
  IsRefusal (from w) e = IsToldWith (path_of w) (IsFaultOf w) e
  IsRefusal lost e = IsToldWith (hint_of m) (roots (hint_of m)) e
  IsRefusal unclear_root e = ⊥

  -- the answer then
  pub record IsAnsweredAt (c : Choice) (result : Result Completion Error) : Type 0 where
    -- what was made is what completion gives by some answers for folders
    pub given : IfOk result (λ new. (answers : Answers)
        × (complete_by m c (filled told answers) ≡ gives (with_completion m new)))
    pub refused : IfErr result (λ e. (e ≡ Memory) ⊎ IsRefusal c e)

  -- the same by the workspace that is handed in, if any, and by some answer for the root
  pub record IsAnsweredBy (handed : Option Handed) (stated : RootsTold) (found : MayFind)
      (result : Result Completion Error) : Type 0 where
    pub answer : ToldRoot
    pub known : AnswersHint (stated (hint_of m)) (found (hint_of m)) answer
    pub answered : IsAnsweredAt (choice m handed (λ _. answer)) result
