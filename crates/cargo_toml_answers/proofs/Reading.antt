-- What is made of the manifest that a text reads as.
use Rattle.std.proofs.Common.{Global, IfErr, IfOk, Result, String, inr, subst, sym, ◌≡◌}
use Rattle.std.proofs.lemmas.Result.{IfErr-weaker, IfOk-weaker}
use Rattle.toml.specs.declared.value.Value.{Value}
use Rattle.cargo_toml.specs.{Action.Text, Error.Error, Manifest.Manifest}
use Rattle.cargo_toml_tools.specs.FromFiles.{IsManifestIn}
use Rattle.cargo_toml_answers.specs.Answered.{IsRefusedText, Reads}

module _ (text : Text) (held m : Manifest Value) (written : IsManifestIn text held) (same : m ≡ held) {E : Type 0} (made : Result (String Global) E) where
  pub read_ok : (P : Manifest Value → String Global → Type 0) → IfOk made (P m) → IfOk made (λ json. Reads text (λ n. P n json))
  read_ok P exact = IfOk-weaker made _ (λ json. Reads text (λ n. P n json)) (λ json is. record { manifest = m; written = subst (IsManifestIn text) (sym same) written; exact = is }) exact

module _ (text : Text) (held m : Manifest Value) (written : IsManifestIn text held) (same : m ≡ held) (made : Result (String Global) Error) where
  pub read_err : (refuses : Manifest Value → Error → Type 0) → IfErr made (refuses m) → IfErr made (IsRefusedText text refuses)
  read_err refuses exact = IfErr-weaker made _ (IsRefusedText text refuses) (λ e is. inr (record { manifest = m; written = subst (IsManifestIn text) (sym same) written; exact = is })) exact
