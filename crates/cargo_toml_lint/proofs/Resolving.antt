-- A resolver with a filter and a limit of a caller's own.
use Rattle.cargo_toml_lint.proofs.Cited.{◌≡◌, Answer, Asked, Bool, Bor, FilterTells, FnReturnsAt, IsParsed, ManifestMeaning, Option, Some, subst, sym, Text, ℕ}

-- what a filter that was handed in keeps
pub tells_of : {F : Type 0} (g : Asked F) (o : Option (Bor F)) (f : Bor F) (keep : Text → Bool) →
    o ≡ Some f → ((n : Text) (r : Bool) → FnReturnsAt g f.now n r → r ≡ keep n) → FilterTells g o keep
tells_of g o f keep is told = subst (λ x. FilterTells g x keep) (sym is) told

-- an answer at the limit that was set
pub parsed_at : {M : Type 0} (keep : Text → Bool) (a : Answer) {n k : ℕ} → n ≡ k
    → (m : ManifestMeaning M) →
    IsParsed n m keep a → IsParsed k m keep a
parsed_at keep a same m is = subst (λ n. IsParsed n m keep a) same is
