-- What is made of a completed manifest, or refused, by a reference to it.
use Rattle.cargo_toml_check.proofs.Cited.{Error, Global, HoldsOfCompleted, IfErr, IfErr-weaker, IfOk, IfOk-weaker, IsCompletedFrom, IsRefusedFor, Manifest, Result, Source, String, Text, Value, inr, string_bytes, subst, sym, ◌≡◌}

module _ (s : Source) (held m : Manifest Value) (completed : IsCompletedFrom s held) (same : m ≡ held) (made : Result (String Global) Error) where
  pub shown_of : (P : Manifest Value → Text → Type 0) → IfOk made (λ shown. P m (string_bytes shown)) → IfOk made (λ shown. HoldsOfCompleted s (λ n. P n (string_bytes shown)))
  shown_of P shown =
      IfOk-weaker made _ (λ shown. HoldsOfCompleted s (λ n. P n (string_bytes shown)))
      (λ shown exact. record { manifest = m; completed = subst (IsCompletedFrom s) (sym same) completed; exact = exact }) shown

  pub refused_of : (P : Manifest Value → Error → Type 0) → IfErr made (P m) → IfErr made (IsRefusedFor s P)
  refused_of P refused =
      IfErr-weaker made _ (IsRefusedFor s P)
      (λ e exact. inr (record { manifest = m; completed = subst (IsCompletedFrom s) (sym same) completed; exact = exact })) refused
