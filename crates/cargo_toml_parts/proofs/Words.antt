-- What an error writes, in steps.
use Rattle.std.proofs.Common.{◌≡◌, ℕ, List, ◌++◌, Result, sym, ap, ◌∙◌, append_assoc}
use Rattle.std.proofs.Output.{has_written_append}
use Rattle.std.specs.Fmt.{HasWritten, IsPlainFormatter}
use Rattle.std.specs.declared.fmt.Error.{Error as FmtError}
use Rattle.std.specs.declared.fmt.Formatter.{Formatter}
use Rattle.cargo_toml_parts.specs.OwnWords.{BeginsWith, WritesSome, own_step, own_words}
use Rattle.cargo_toml_parts.specs.declared.error.Error.{Error, fold-roll-Error, map-Error, roll-Error}
use Rattle.cargo_toml_parts.specs.declared.error.Error.TheOpen.{Error-F}

-- an error's own words, by its variant
pub own_of : (e : Error) (l : Error-F Error) → e ≡ roll-Error l → own_words e ≡ own_step (map-Error _ _ own_words l)
own_of e l is = ap own_words is ∙ fold-roll-Error (List ℕ) own_step l

-- these words, and then what begins with those
pub and_then : {W : Type 0} (took : W → List ℕ → W → Type 0) (f h g : Formatter W) (r : Result (Unit {0}) FmtError) (all words others : List ℕ)
    → all ≡ words ++ others → (IsPlainFormatter f → HasWritten took f words h) → WritesSome took h r (BeginsWith others) g → WritesSome took f r (BeginsWith all) g
and_then took f h g r all words others is first more plain ok =
    let one = first plain in
    let two = more one.plain ok in (
      words ++ two.0,
      (
        (
          two.1.0.0,
          ap (λ (l : List ℕ). words ++ l) two.1.0.1
              ∙ sym (append_assoc words others two.1.0.0)
              ∙ ap (λ (l : List ℕ). l ++ two.1.0.0) (sym is),
        ),
        has_written_append took f words h two.0 g one two.1.1,
      ),
    )
