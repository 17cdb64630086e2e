-- Copies of lints hold the same.
use Rattle.std.proofs.Common.{◌≡◌, ℕ, List, BTreeMap, String, Global, string_bytes}
use Rattle.std.specs.List.{AllZip}
use Rattle.toml.specs.View.{view}
use Rattle.cargo_toml_parts.specs.Reads.{map_meaning}
use Rattle.cargo_toml_parts.proofs.SameCopies.{zip_same}
use Rattle.cargo_toml_parts.specs.Lints.{lint_meaning}
use Rattle.cargo_toml_parts.specs.declared.lint.Lint.{Lint}
use Rattle.cargo_toml_parts.specs.contracts.lint.LintClone.TheImpl as lint

-- an entry and its copy, where R relates a value and its copy
abbrev pub IsEntryCopy : {X : Type 0} → (X → X → Type 0) → String Global × X → String Global × X → Type 0
IsEntryCopy R x y = (string_bytes y.0 ≡ string_bytes x.0) × R x.1 y.1

entry_same : {X M : Type 0} (f : X → M) (R : X → X → Type 0) → ((x y : X) → R x y → f y ≡ f x) → (x y : String Global × X) → IsEntryCopy R x y → ◌≡◌ {A = List ℕ × M} (string_bytes y.0, f y.1) (string_bytes x.0, f x.1)
entry_same f R same x y h = let a = h.0 in let b = same x.1 y.1 h.1 in cc

-- copies of maps, entry by entry
pub map_same : {X M : Type 0} (f : X → M) (R : X → X → Type 0) → ((x y : X) → R x y → f y ≡ f x) → (x y : BTreeMap (String Global) X) → AllZip (IsEntryCopy R) x.entries y.entries → map_meaning f y ≡ map_meaning f x
map_same f R same x y h = zip_same (λ e. (string_bytes e.0, f e.1)) (IsEntryCopy R) (entry_same f R same) x.entries y.entries h

pub lint_same : (x y : Lint) → lint.ghosts.is_clone x y → lint_meaning y ≡ lint_meaning x
lint_same x y h =
    let level = h.0 in
    let priority = h.1.0 in
    let config = map_same view _ (λ _ _ e. e) x.config y.config h.1.1 in
    cc
